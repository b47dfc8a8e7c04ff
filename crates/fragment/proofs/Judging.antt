-- The passage of a judgement from channel to channel.
--   Judging v ends play t lp ls held marks k   the fragments found, with those that the channels from k on name, are all fragments; each of them has an admissible land, their ports are marked, and what would be chosen of them is held
--   f, c                                       the fragment that channel k names, and its choice
-- judging_start: at the first channel. judging_pass: past one that names no fragment. judging_shut, judging_names, judging_step: past one that names one. judging_stuck, judging_ready, judging_held: what it comes to.
-- Assumes nothing.
use mathlib.Core.Path.{◌≡◌, refl, sym, ap, ◌∙◌, subst}
use mathlib.Core.Bool.{Bool, true, false, not}
use mathlib.Core.List.{List, [], ◌∷◌, ◌++◌, map, map-append}
use Prim.Native.Nat.{ℕ, ◌+◌, ◌-◌, ◌≤◌, ◌<◌}
use native.Mathlib.Omega.{arith}
use borrow.Author.Tests.{not-true, not-false}
use lib.ListN.{length}
use Rattle.std.specs.Prelude.{Option, Some, None}
use Rattle.rules.specs.Lists.{from, keep, at}
use Rattle.rules.specs.Laying.{Fragment, Choice, lowest, chosen, fragment_at, settled, fragments, choice_of, all_laid, judge}
use Rattle.laws.proofs.Lists.{All, all_snoc}
use Rattle.laws.proofs.Choices.{Open}
use Rattle.reach.specs.Floods.{Sized}
use Rattle.fragment.specs.Fragments.{Unmarked, Marked, Shut}
use Rattle.fragment.specs.Rounds.{held_of, preferred, laid_by, state_of, verdict_of, Weighs}
use Rattle.fragment.specs.declared.Weight.{Weight}
use Rattle.fragment.specs.declared.Verdict.TheVariants.{Stuck, Ready}
use Rattle.fragment.proofs.Rising.{from_whole}
use Rattle.fragment.proofs.Spreading.{place_unmarked}
use Rattle.fragment.proofs.Marking.{unsettled, marked_shut, marked_first, marked_later, marked_add}
use Rattle.fragment.proofs.Choosing.{fragments_settled, fragments_new, fragments_over, weighed_none, weighed_some, held_more, stuck_told, ready_told, some_held}

pub record Judging (v : ℕ) (ends : List ℕ) (play : List Bool) (t : List ℕ) (lp : List Bool) (ls : List (List ℕ)) (held : Option Weight) (marks : List Bool) (k : ℕ) : Type 0 where
  pub found : List Fragment
  pub rest : fragments v ends play t lp (from k (length play - k)) found ≡ fragments v ends play t lp (from 0 (length play)) []
  pub marked : Marked v ends play lp found k marks
  pub lands : All Open (map (choice_of v ends play lp ls) found)
  pub choice : held ≡ held_of (chosen (map (choice_of v ends play lp ls) found))

module _ (v : ℕ) (ends : List ℕ) (play : List Bool) (t : List ℕ) (lp : List Bool) (ls : List (List ℕ)) (sized : Sized v ends play) (lpv : length lp ≡ v) where
  pub judging_start : (marks : List Bool) → marks ≡ lp → Judging v ends play t lp ls None marks 0
  unfolding chosen lowest keep
  judging_start marks e = record {
    found = [];
    rest = ap (λ (ks : List ℕ). fragments v ends play t lp ks []) (from_whole (length play));
    marked = subst (Marked v ends play lp [] 0) (sym e) (marked_first v ends play lp sized lpv);
    lands = tt;
    choice = refl;
  }

  module _ (held : Option Weight) (marks : List Bool) (k : ℕ) (j : Judging v ends play t lp ls held marks k) (b : k < length play)
      (x : Bool) (told : (fs : List Fragment) → Marked v ends play lp fs k marks → x ≡ not (settled v ends play t fs k)) where
    pub judging_pass : x ≡ false → Judging v ends play t lp ls held marks (k + 1)
    judging_pass e = record {
      found = j.found;
      rest = sym (fragments_settled v ends play t lp j.found k b (not-false _ (sym (told j.found j.marked) ∙ e))) ∙ j.rest;
      marked = marked_later v ends play lp sized lpv j.found k (k + 1) marks (omega arith) j.marked;
      lands = j.lands;
      choice = j.choice;
    }

    module _ (e : x ≡ true) where
      names : settled v ends play t j.found k ≡ false
      names = not-true _ (sym (told j.found j.marked) ∙ e)

      -- what is asked of channel k
      pub judging_shut : Shut ends play lp marks
      judging_shut = marked_shut v ends play lp sized lpv j.found k marks j.marked

      pub judging_names : (at play k ≡ true) × Unmarked ends lp marks k
      judging_names =
          let u = unsettled v ends play lp sized lpv j.found k marks j.marked t names in
          (u.0, place_unmarked v ends play lp k marks u.1)

      abbrev f : Fragment
      f = fragment_at v ends play lp k

      abbrev c : Choice
      c = choice_of v ends play lp ls f

      fragment_name : f.name ≡ k
      unfolding fragment_at
      fragment_name = refl

      name_is : c.fragment.name ≡ k
      unfolding choice_of fragment_at
      name_is = refl

      new_rest : fragments v ends play t lp (from (k + 1) (length play - (k + 1))) (j.found ++ (f ∷ [])) ≡ fragments v ends play t lp (from 0 (length play)) []
      new_rest = sym (fragments_new v ends play t lp j.found k b names) ∙ j.rest

      module _ (marks' : List Bool) where
        pub judging_stuck : Weighs v ends play lp ls k marks marks' None → lp ≡ laid_by v ends t → all_laid v ends play t ≡ false → Stuck k ≡ verdict_of (judge v ends play (state_of t ls))
        judging_stuck g q u =
            ap Stuck (sym fragment_name)
            ∙ subst (λ (l : List Bool). fragments v ends play t l (from (k + 1) (length play - (k + 1))) (j.found ++ (f ∷ [])) ≡ fragments v ends play t l (from 0 (length play)) []
            → All Open (map (choice_of v ends play l ls) j.found) → length (choice_of v ends play l ls f).fits ≡ 0 → Stuck f.name ≡ verdict_of (judge v ends play (state_of t ls))) (sym q)
            (stuck_told v ends play t ls u j.found f (from (k + 1) (length play - (k + 1)))) new_rest j.lands (weighed_none k c.fits g.weight)

        pub judging_step : (w : Weight) → Weighs v ends play lp ls k marks marks' (Some w) → (held' : Option Weight) → held' ≡ Some (preferred held w) → Judging v ends play t lp ls held' marks' (k + 1)
        judging_step w g held' h =
            let cut = map-append (choice_of v ends play lp ls) j.found (f ∷ []) in
            let some = weighed_some k c.fits w g.weight in
            record {
              found = j.found ++ (f ∷ []);
              rest = new_rest;
              marked = marked_add v ends play lp sized lpv j.found k marks marks' j.marked (rw judging_names.0 tt) g.marked;
              lands = subst (All Open) (sym cut) (all_snoc Open (map (choice_of v ends play lp ls) j.found) c j.lands some);
              choice =
                  h ∙ held_more c some k name_is w g.weight (map (choice_of v ends play lp ls) j.found) j.lands held j.choice
                  ∙ ap (λ (l : List Choice). held_of (chosen l)) (sym cut);
            }

  module _ (held : Option Weight) (marks : List Bool) (k : ℕ) (j : Judging v ends play t lp ls held marks k) (b : length play ≤ k) (q : lp ≡ laid_by v ends t) (e : all_laid v ends play t ≡ false) where
    all_found : j.found ≡ fragments v ends play t lp (from 0 (length play)) []
    all_found = sym (fragments_over v ends play t lp j.found k b) ∙ j.rest

    pub judging_ready : (w : Weight) → held ≡ Some w → Ready w.choice ≡ verdict_of (judge v ends play (state_of t ls))
    judging_ready w h =
        subst (λ (l : List Bool). j.found ≡ fragments v ends play t l (from 0 (length play)) [] → All Open (map (choice_of v ends play l ls) j.found) → Some w ≡ held_of (chosen (map (choice_of v ends play l ls) j.found))
        → Ready w.choice ≡ verdict_of (judge v ends play (state_of t ls))) (sym q)
        (λ a o r. ready_told v ends play t ls e j.found a o w r) all_found j.lands (sym h ∙ j.choice)

    pub judging_held : held ≡ None → ⊥
    judging_held h =
        subst (λ (l : List Bool). j.found ≡ fragments v ends play t l (from 0 (length play)) [] → All Open (map (choice_of v ends play l ls) j.found) → None ≡ held_of (chosen (map (choice_of v ends play l ls) j.found)) → ⊥) (sym q)
        (λ a o r. some_held v ends play t ls e j.found a o r) all_found j.lands (sym h ∙ j.choice)
