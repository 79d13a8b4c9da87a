-- What the laws of the join give of the order, and of the rank. Assumes nothing.
use Rattle.std.proofs.Common.{◌≡◌, ◌<◌, ◌⊎◌, sym, refl, ap, ◌∙◌, subst, inl, inr, ⊎_elim}
use base.Stored.{Gv, gnil, gnum, gcons, Coded}
use Rattle.std.proofs.lemmas.Bool.{cases_eq}
use Rattle.fixpoint.specs.System.{Equations, Laws, Below}

-- codes are equal or they differ
same_code : (x y : Gv) → (x ≡ y) ⊎ (x ≡ y → ⊥)
same_code gnil gnil = inl refl
same_code gnil (gnum n) = inr (λ e. cc)
same_code gnil (gcons a b) = inr (λ e. cc)
same_code (gnum m) gnil = inr (λ e. cc)
same_code (gnum m) (gnum n) = ⊎_elim (λ (e : m ≡ n). inl (ap gnum e)) (λ (d : m ≡ n → ⊥). inr (λ e. d cc)) (cases_eq m n)
same_code (gnum m) (gcons a b) = inr (λ e. cc)
same_code (gcons a b) gnil = inr (λ e. cc)
same_code (gcons a b) (gnum n) = inr (λ e. cc)
same_code (gcons a b) (gcons c d) = ⊎_elim
    (λ (e : a ≡ c). ⊎_elim (λ (f : b ≡ d). inl cc) (λ (n : b ≡ d → ⊥). inr (λ p. n cc)) (same_code b d))
    (λ (n : a ≡ c → ⊥). inr (λ p. n cc))
    (same_code a c)

-- values that have codes are equal or they differ
pub same_or_not : {E : Type 0} → Coded E → (a b : E) → (a ≡ b) ⊎ (a ≡ b → ⊥)
same_or_not c a b = ⊎_elim (λ e. inl (c.inj a b e)) (λ d. inr (λ e. d (ap c.code e))) (same_code (c.code a) (c.code b))

-- joins keep the order, for an associative and commutative join
pub joins_below : {E : Type 0} (join : E → E → E) → ((a b c : E) → join (join a b) c ≡ join a (join b c)) → ((a b : E) → join a b ≡ join b a)
    → (a b c d : E) → join a b ≡ b → join c d ≡ d → join (join a c) (join b d) ≡ join b d
joins_below join assoc comm a b c d p q =
    assoc a c (join b d) ∙ ap (join a) (sym (assoc c b d) ∙ ap (λ x. join x d) (comm c b) ∙ assoc b c d ∙ ap (join b) q) ∙ sym (assoc a b d) ∙ ap (λ x. join x d) p

module _ {E : Type 0} (s : Equations E) (laws : Laws s) where
  pub below_antisym : (a b : E) → Below s a b → Below s b a → a ≡ b
  below_antisym a b p q = sym q ∙ laws.commutative b a ∙ p

  pub below_trans : (a b c : E) → Below s a b → Below s b c → Below s a c
  below_trans a b c p q = ap (s.join a) (sym q) ∙ sym (laws.associative a b c) ∙ ap (λ x. s.join x c) p ∙ q

  pub below_join_left : (a b : E) → Below s a (s.join a b)
  below_join_left a b = sym (laws.associative a a b) ∙ ap (λ x. s.join x b) (laws.idempotent a)

  pub below_join_right : (a b : E) → Below s b (s.join a b)
  below_join_right a b = subst (Below s b) (laws.commutative b a) (below_join_left b a)

  -- the join lies below whatever both lie below
  pub join_below : (a b c : E) → Below s a c → Below s b c → Below s (s.join a b) c
  join_below a b c p q = laws.associative a b c ∙ ap (s.join a) q ∙ p

  pub rank_below : Coded E → (a b : E) → Below s a b → (a ≡ b) ⊎ (s.rank a < s.rank b)
  rank_below c a b p = ⊎_elim
      (λ (e : a ≡ b). inl e)
      (λ (d : a ≡ b → ⊥). inr (subst (λ x. s.rank a < s.rank x) p (laws.rises a b (λ e. d (sym e ∙ p)))))
      (same_or_not c a b)
