-- The firings of a chart, as chains over its transitions build them up. Assumes nothing.
use Rattle.std.proofs.Common.{◌≡◌, ℕ, ◌+◌, Bool, true, false, cond, ◌&&◌, ◌||◌, List, [], ◌∷◌, ◌++◌, map, length, take, filter, fold, Option, sym, refl, ap, ◌∙◌, append_assoc, length-append, arith}
use mathlib.Core.Bool.{and_assoc, and-true, or_assoc, or-false}
use Rattle.std.specs.List.{enumerate_from, list_any}
use Rattle.std.proofs.Math.Seq.{take-append_seam}
use Rattle.chart.specs.declared.transition.Transition.{Transition}
use Rattle.bits.specs.Members.{some}
use Rattle.status.specs.Equations.{bears, emits, firing, firings, hears}
use Rattle.status.specs.Status.{status, both, either, all, any}
use Rattle.status.specs.declared.status.Status.{Status}

-- an And built up part by part
pub all_folded : {A : Type 0} (f : A → Status) (a : Status) (xs : List A) → fold (λ b x. both b (f x)) a xs ≡ all (a ∷ map f xs)
all_folded f a [] = λ i. status (sym (and-true a.present) i) (sym (or-false a.absent) i)
all_folded f a (x ∷ xs) =
    let rest = all (map f xs) in
    all_folded f (both a (f x)) xs ∙ (λ i. status (and_assoc a.present (f x).present rest.present i) (or_assoc a.absent (f x).absent rest.absent i))

-- an Or built up part by part
pub any_folded : {A : Type 0} (f : A → Status) (a : Status) (xs : List A) → fold (λ b x. either b (f x)) a xs ≡ any (a ∷ map f xs)
any_folded f a [] = λ i. status (sym (or-false a.present) i) (sym (and-true a.absent) i)
any_folded f a (x ∷ xs) =
    let rest = any (map f xs) in
    any_folded f (either a (f x)) xs ∙ (λ i. status (or_assoc a.present (f x).present rest.present i) (and_assoc a.absent (f x).absent rest.absent i))

-- one that is kept passes a test exactly where one passes both
pub some_kept : {A : Type 0} (q p : A → Bool) (xs : List A) → list_any (λ x. q x && p x) xs ≡ some p (filter q xs)
some_kept q p [] = refl
some_kept q p (x ∷ xs) =
    ap (λ b. (q x && p x) || b) (some_kept q p xs)
    ∙ elim (q x) as (λ b. ((b && p x) || some p (filter q xs)) ≡ some p (cond b (x ∷ filter q xs) (filter q xs))) [ true ↦ refl | false ↦ refl ]

module _ (states : List (Option ℕ)) (s : ℕ) (ts : List Transition) where
  -- what stands before a numbered transition
  before : (earlier later : List Transition) (n : ℕ) → earlier ++ later ≡ ts → length earlier ≡ n → take n ts ≡ earlier
  before earlier later n all long = (λ i. take (sym long i) (sym all i)) ∙ take-append_seam earlier later

  -- the firings that make up signal s, by the numbers of their transitions
  pub firings_numbered : (u : ℕ → Status) (earlier later : List Transition) (n : ℕ) → earlier ++ later ≡ ts → length earlier ≡ n
      → map (λ p. firing states u (take p.0 ts) p.1) (filter (λ p. emits states s p.1) (enumerate_from n later)) ≡ firings states u s earlier later
  unfolding firings
  firings_numbered u earlier [] n all long = refl
  firings_numbered u earlier (t ∷ later) n all long =
      let f : (ℕ × Transition) → Status = λ p. firing states u (take p.0 ts) p.1 in
      let left = filter (λ (p : ℕ × Transition). emits states s p.1) (enumerate_from (n + 1) later) in
      let rest = firings_numbered u (earlier ++ (t ∷ [])) later (n + 1) (append_assoc earlier (t ∷ []) later ∙ all) (omega (arith, length-append earlier (t ∷ []))) in
      elim (emits states s t) as (λ b. map f (cond b ((n, t) ∷ left) left) ≡ cond b (firing states u earlier t ∷ firings states u s (earlier ++ (t ∷ [])) later) (firings states u s (earlier ++ (t ∷ [])) later)) [
        | true ↦ λ i. firing states u (before earlier (t ∷ later) n all long i) t ∷ rest i
        | false ↦ rest
      ]

  -- whether one of them depends on signal j
  pub hears_numbered : (j : ℕ) (earlier later : List Transition) (n : ℕ) → earlier ++ later ≡ ts → length earlier ≡ n
      → list_any (λ p. emits states s p.1 && bears states j (take p.0 ts) p.1) (enumerate_from n later) ≡ hears states s j earlier later
  unfolding hears
  hears_numbered j earlier [] n all long = refl
  hears_numbered j earlier (t ∷ later) n all long =
      let rest = hears_numbered j (earlier ++ (t ∷ [])) later (n + 1) (append_assoc earlier (t ∷ []) later ∙ all) (omega (arith, length-append earlier (t ∷ []))) in
      λ i. (emits states s t && bears states j (before earlier (t ∷ later) n all long i) t) || rest i
