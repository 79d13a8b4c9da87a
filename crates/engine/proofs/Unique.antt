-- A system of equations has one least solution. Assumes nothing.
use Rattle.std.proofs.Common.{◌≡◌, ℕ, ◌*◌, ◌≤◌, List, length, Option, sym, ◌∙◌, arith}
use base.Stored.{Coded, coded_bool, coded_via, coded_ℕ, coded×}
use Rattle.std.proofs.lemmas.List.{take_all}
use Rattle.fixpoint.specs.System.{Equations, Laws, least}
use Rattle.fixpoint.proofs.Leastness.{least_first, least_solution, length_rounds, rounds_below, solution_closed}
use Rattle.chart.specs.Decoded.{Decoded, decode}
use Rattle.chart.specs.Layout.{Layout}
use Rattle.status.specs.Equations.{status_equations}
use Rattle.status.specs.Status.{status}
use Rattle.status.specs.StatusLaws.{status_laws}
use Rattle.status.specs.declared.status.Status.{Status}
use Rattle.analysis.specs.Reach.{reach_equations}
use Rattle.analysis.specs.ReachLaws.{chart_laws}
use Rattle.bits.proofs.Sets.{same_bits}
use Rattle.bits.specs.declared.set.NumberSet.{NumberSet as StateSet}
use Rattle.engine.specs.Instant.{Least, OneLeast}

module _ {E : Type 0} (s : Equations E) (laws : Laws s) (code : Coded E) where
  -- the iteration from bottoms alone ends in a least solution
  least_is : Least s (least s)
  least_is = record {
    long = length_rounds s laws (s.count * s.height);
    solution = least_solution s laws code;
    lowest = λ ys long closed. rounds_below s laws ys long closed (s.count * s.height);
  }

  -- and any least solution is that one
  least_only : (xs : List E) → Least s xs → xs ≡ least s
  least_only xs l =
      let long = l.long in
      sym (take_all s.count xs (omega arith)) ∙ least_first s laws code xs (omega arith) (solution_closed s laws xs l.solution) l.lowest

  -- a system that keeps the laws has one least solution
  pub one_least : OneLeast s
  one_least = record { least = least s; is = least_is; only = least_only }

-- statuses have a code: their two marks
status_code : Coded Status
status_code = coded_via (coded× coded_bool coded_bool) (λ a. (a.present, a.absent)) (λ a b e k. status (e k).0 (e k).1)

-- sets have a code: their bits
set_code : Coded StateSet
set_code = coded_via coded_ℕ (λ a. a.bits) same_bits

-- the equations of an instant have one least solution
module _ (c : Decoded) (states : List (Option ℕ)) (mask : ℕ) (few : length c.signals ≤ 64) where
  pub one_status : OneLeast (status_equations c states mask)
  one_status = one_least (status_equations c states mask) (status_laws c states mask few) status_code

  -- which is the one that is iterated to
  pub status_only : (xs : List Status) → Least (status_equations c states mask) xs → xs ≡ least (status_equations c states mask)
  status_only = least_only (status_equations c states mask) (status_laws c states mask few) status_code

-- the reach equations of a chart have one least solution
pub one_reach : (bytes : List ℕ) → ∥ Layout bytes ∥₁ → OneLeast (reach_equations (decode bytes))
one_reach bytes layout = one_least (reach_equations (decode bytes)) (chart_laws bytes layout) set_code
