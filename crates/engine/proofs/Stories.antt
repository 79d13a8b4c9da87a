-- Stories: one more call, the one story of a list of calls, and induction over stories. Assumes nothing.
use Rattle.std.proofs.Common.{◌≡◌, ℕ, List, [], ◌∷◌, ◌++◌, map, sym, refl, ap, ◌∙◌, subst}
use Rattle.chart.specs.Decoded.{Decoded, decode}
use Rattle.engine.specs.Answer.{Held, at_start, outcome_of}
use Rattle.engine.specs.Story.{Behind, Call, Follows, OneStory, Told, answered, call_of, held_after, instant, reset, story_of, was_reset}

module _ (c : Decoded) where
  -- one story after another
  pub follows_append : (from mid to : Held) (story more : List Told) → Follows c from story mid → Follows c mid more to → Follows c from (story ++ more) to
  follows_append from mid to [] more e h = subst (λ x. Follows c x more to) (sym e) h
  follows_append from mid to (was_reset ∷ story) more h k = follows_append (at_start c) mid to story more h k
  follows_append from mid to (answered mask places room reply ∷ story) more h k = (h.0, follows_append (outcome_of c from mask places room).after mid to story more h.1 k)

  -- what the start has and each instant keeps, the end of every story has
  pub kept_by_story : (P : Held → Type 0) → P (at_start c) → ((h : Held) (mask places room : ℕ) → P h → P (outcome_of c h mask places room).after)
      → (from to : Held) (story : List Told) → Follows c from story to → P from → P to
  kept_by_story P begins keeps from to [] e p = subst P e p
  kept_by_story P begins keeps from to (was_reset ∷ story) h p = kept_by_story P begins keeps (at_start c) to story h begins
  kept_by_story P begins keeps from to (answered mask places room reply ∷ story) h p =
      kept_by_story P begins keeps (outcome_of c from mask places room).after to story h.1 (keeps from mask places room p)

  -- the story that calls make is one, with these calls
  pub story_follows : (from : Held) (calls : List Call) → Follows c from (story_of c from calls) (held_after c from calls)
  story_follows from [] = refl
  story_follows from (reset ∷ calls) = story_follows (at_start c) calls
  story_follows from (instant mask places room ∷ calls) = (refl, story_follows (outcome_of c from mask places room).after calls)

  pub story_calls : (from : Held) (calls : List Call) → map call_of (story_of c from calls) ≡ calls
  story_calls from [] = refl
  story_calls from (reset ∷ calls) = ap (λ cs. reset ∷ cs) (story_calls (at_start c) calls)
  story_calls from (instant mask places room ∷ calls) = ap (λ cs. instant mask places room ∷ cs) (story_calls (outcome_of c from mask places room).after calls)

  -- a story is the one that its calls make
  pub story_only : (from to : Held) (story : List Told) → Follows c from story to → (story ≡ story_of c from (map call_of story)) × (to ≡ held_after c from (map call_of story))
  story_only from to [] e = (refl, sym e)
  story_only from to (was_reset ∷ story) h =
      let later = story_only (at_start c) to story h in
      (ap (λ ts. was_reset ∷ ts) later.0, later.1)
  story_only from to (answered mask places room reply ∷ story) h =
      let later = story_only (outcome_of c from mask places room).after to story h.1 in
      ((λ i. answered mask places room (h.0 i) ∷ later.0 i), later.1)

-- one more call, with the answer that the rules give
pub behind_instant : (bytes : List ℕ) (h then : Held) (mask places room : ℕ) → then ≡ (outcome_of (decode bytes) h mask places room).after
    → (story : List Told) → Behind bytes story h → Behind bytes (story ++ (answered mask places room (outcome_of (decode bytes) h mask places room).reply ∷ [])) then
behind_instant bytes h then mask places room e story b = follows_append (decode bytes) (at_start (decode bytes)) h then story _ b (refl, sym e)

pub behind_reset : (bytes : List ℕ) (h then : Held) → then ≡ at_start (decode bytes) → (story : List Told) → Behind bytes story h → Behind bytes (story ++ (was_reset ∷ [])) then
behind_reset bytes h then e story b = follows_append (decode bytes) (at_start (decode bytes)) h then story (was_reset ∷ []) b (sym e)

-- every list of calls is one story
pub one_story : (bytes : List ℕ) (calls : List Call) → OneStory bytes calls
one_story bytes calls =
    let c = decode bytes in
    let from = at_start c in
    record {
      story = story_of c from calls;
      held = held_after c from calls;
      calls_are = story_calls c from calls;
      behind = story_follows c from calls;
      only = λ other end same b.
          let is = story_only c from end other b in
          (is.0 ∙ ap (story_of c from) same, is.1 ∙ ap (held_after c from) same);
    }
