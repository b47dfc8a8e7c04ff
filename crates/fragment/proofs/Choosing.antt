-- The choice of a round, fragment by fragment: what is held after the fragments so far is what would be chosen of them, and they are the first of all fragments.
--   up_to             the number of channels
--   lp               the laid ports
--   choice f         the choice of the fragment f
--   total            all fragments, in order of name
--   weight_of c      what the fragment of the choice c weighs, which has an admissible land
-- fragments_settled, fragments_new, fragments_over, fragments_rest: from channel to channel. weighed_..: by the admissible lands. held_new, held_more: one choice more. flat_told, stuck_told, ready_told: the three answers. some_held: a round that is not flat has a choice.
-- Assumes nothing.
use mathlib.Core.Path.{◌≡◌, refl, sym, ap, ◌∙◌}
use mathlib.Core.Logic.{⊎_elim}
use mathlib.Core.Bool.{Bool, true, false, cond, not, ◌||◌}
use mathlib.Core.List.{List, [], ◌∷◌, ◌++◌, map, map-append, append_assoc, append-nil}
use Prim.Native.Nat.{ℕ, ◌+◌, ◌-◌, ◌≤◌, ◌<◌}
use native.Mathlib.Nat.{not-suc-le-zero, eq-zero-or-pos}
use native.Mathlib.Omega.{arith}
use lib.Dec.{T, T_not, eqb, eqb→eq}
use lib.ListN.{length, get_or}
use Rattle.std.specs.Prelude.{Option, Some, None}
use Rattle.std.specs.Option.{unwrap_or}
use Rattle.rules.specs.Lists.{from, keep}
use Rattle.rules.specs.Laying.{Fragment, Choice, flat, ready, without, single, lowest, chosen, stuck_or, fragment_at, settled, fragments, choice_of, choices, all_laid, judge}
use Rattle.laws.proofs.Tests.{cond_cases, T_is, T_isnt, eq_eqb, ne_neqb}
use Rattle.laws.proofs.Lists.{All, all_weaken, keep_none}
use Rattle.laws.proofs.Choices.{Open, chosen_in, choices_some}
use Rattle.fragment.specs.Rounds.{weighed, held_of, preferred, laid_by, state_of, verdict_of}
use Rattle.fragment.specs.declared.Weight.{Weight}
use Rattle.fragment.specs.declared.Verdict.TheVariants.{Flat, Stuck, Ready}
use Rattle.fragment.proofs.Rising.{from_cut, from_over}

-- ---- from channel to channel

module _ (v : ℕ) (ends : List ℕ) (play : List Bool) (t : List ℕ) (lp : List Bool) where
  abbrev up_to : ℕ
  up_to = length play

  pub fragments_settled : (fs : List Fragment) (k : ℕ) → k < up_to → settled v ends play t fs k ≡ true
      → fragments v ends play t lp (from k (up_to - k)) fs ≡ fragments v ends play t lp (from (k + 1) (up_to - (k + 1))) fs
  unfolding fragments
  fragments_settled fs k h e =
      ap (λ (ks : List ℕ). fragments v ends play t lp ks fs) (from_cut k up_to h)
      ∙ ap (λ (b : Bool). fragments v ends play t lp (from (k + 1) (up_to - (k + 1))) (cond b fs (fs ++ (fragment_at v ends play lp k ∷ [])))) e

  pub fragments_new : (fs : List Fragment) (k : ℕ) → k < up_to → settled v ends play t fs k ≡ false
      → fragments v ends play t lp (from k (up_to - k)) fs ≡ fragments v ends play t lp (from (k + 1) (up_to - (k + 1))) (fs ++ (fragment_at v ends play lp k ∷ []))
  unfolding fragments
  fragments_new fs k h e =
      ap (λ (ks : List ℕ). fragments v ends play t lp ks fs) (from_cut k up_to h)
      ∙ ap (λ (b : Bool). fragments v ends play t lp (from (k + 1) (up_to - (k + 1))) (cond b fs (fs ++ (fragment_at v ends play lp k ∷ [])))) e

  pub fragments_over : (fs : List Fragment) (k : ℕ) → up_to ≤ k → fragments v ends play t lp (from k (up_to - k)) fs ≡ fs
  unfolding fragments
  fragments_over fs k h = ap (λ (ks : List ℕ). fragments v ends play t lp ks fs) (from_over k up_to h)

  -- those found so far are the first
  pub fragments_rest : (ks : List ℕ) (fs : List Fragment) → (gs : List Fragment) × (fragments v ends play t lp ks fs ≡ fs ++ gs)
  unfolding fragments
  fragments_rest [] fs = ([], sym (append-nil fs))
  fragments_rest (k ∷ ks) fs = go (settled v ends play t fs k) (λ hs. fragments_rest ks hs)
    where
      go : (b : Bool) → ((hs : List Fragment) → (gs : List Fragment) × (fragments v ends play t lp ks hs ≡ hs ++ gs))
          → (gs : List Fragment) × (fragments v ends play t lp ks (cond b fs (fs ++ (fragment_at v ends play lp k ∷ []))) ≡ fs ++ gs)
      go true f = f fs
      go false f =
          let r = f (fs ++ (fragment_at v ends play lp k ∷ [])) in
          (fragment_at v ends play lp k ∷ r.0, r.1 ∙ append_assoc fs (fragment_at v ends play lp k ∷ []) r.0)

-- ---- lists of choices

keep_append : {A : Type 0} (f : A → Bool) (l m : List A) → keep f (l ++ m) ≡ keep f l ++ keep f m
unfolding keep
keep_append f [] m = refl
keep_append {A} f (x ∷ l) m = go (f x) (keep_append f l m)
  where
    go : (b : Bool) → keep f (l ++ m) ≡ keep f l ++ keep f m → cond b (x ∷ keep f (l ++ m)) (keep f (l ++ m)) ≡ cond b (x ∷ keep f l) (keep f l) ++ keep f m
    go true e = ap (λ (r : List A). x ∷ r) e
    go false e = e

none_kept : {A : Type 0} (f : A → Bool) (l : List A) → All (λ x. T (not (f x))) l → keep f l ≡ []
unfolding keep
none_kept f [] a = refl
none_kept f (x ∷ l) a = rw (T_isnt (f x) (T_not (f x) a.0)) (none_kept f l a.1)

-- ---- what a fragment weighs

none_some : (w : Weight) → None ≡ Some w → ⊥
none_some w e = cc

some_is : (u w : Weight) → Some u ≡ Some w → u ≡ w
some_is u w e = ap (λ o. unwrap_or o u) e

pub weighed_none : (k : ℕ) (fits : List ℕ) → None ≡ weighed k fits → length fits ≡ 0
weighed_none k [] e = refl
weighed_none k (l ∷ fits) e = absurd (none_some _ e)

pub weighed_some : (k : ℕ) (fits : List ℕ) (w : Weight) → Some w ≡ weighed k fits → 1 ≤ length fits
weighed_some k [] w e = absurd (none_some w (sym e))
weighed_some k (l ∷ fits) w e = omega arith

weighed_choice : (k : ℕ) (fits : List ℕ) (w : Weight) → Some w ≡ weighed k fits → w.choice ≡ record { name = k; land = get_or fits 0 0 }
weighed_choice k [] w e = absurd (none_some w (sym e))
weighed_choice k (l ∷ fits) w e = ap (λ o. (unwrap_or o w).choice) e

pub weighed_is : (k : ℕ) (fits : List ℕ) (a : ℕ) (o : Bool) → 1 ≤ length fits → get_or fits 0 0 ≡ a → eqb (length fits) 1 ≡ o → Some (record { choice = record { name = k; land = a }; only = o }) ≡ weighed k fits
weighed_is k [] a o h e q = absurd (not-suc-le-zero h)
weighed_is k (l ∷ fits) a o h e q = ap (λ (m : ℕ). Some (record { choice = record { name = k; land = m }; only = o })) (sym e) ∙ ap (λ (x : Bool). Some (record { choice = record { name = k; land = l }; only = x })) (sym q)

-- of a choice that has an admissible land
abbrev weight_of : Choice → Weight
weight_of c = record { choice = record { name = c.fragment.name; land = get_or c.fits 0 0 }; only = single c }

held_open : (c : Choice) → Open c → held_of c ≡ Some (weight_of c)
unfolding single
held_open c h = sym (weighed_is c.fragment.name c.fits (get_or c.fits 0 0) (eqb (length c.fits) 1) h refl refl)

-- ---- one choice more

open_without : (c : Choice) → Open c → T (not (without c))
unfolding without
open_without c h = ne_neqb (length c.fits) 0 (λ e. not-suc-le-zero {n = 0} (omega arith))

-- the lowest, where there is one
lowest_first : (l m : List Choice) → 1 ≤ length l → lowest (l ++ m) ≡ lowest l
unfolding lowest
lowest_first [] m h = absurd (not-suc-le-zero h)
lowest_first (x ∷ l) m h = refl

-- the first with exactly one land
lowest_single : (l : List Choice) → 1 ≤ length (keep single l) → T (single (lowest (keep single l)))
unfolding keep lowest
lowest_single [] h = absurd (not-suc-le-zero h)
lowest_single (x ∷ l) h = go (single x) refl (lowest_single l) h
  where
    go : (b : Bool) → single x ≡ b → (1 ≤ length (keep single l) → T (single (lowest (keep single l)))) → 1 ≤ length (cond b (x ∷ keep single l) (keep single l)) → T (single (lowest (cond b (x ∷ keep single l) (keep single l))))
    go true e f k = rw e tt
    go false e f k = f k

open_single : (c : Choice) → T (single c) → Open c
unfolding single
open_single c t = omega (arith, eqb→eq (length c.fits) 1 t)

module _ (c : Choice) (o : Open c) where
  -- what is preferred where one with exactly one land is held, and where another is
  prefer_held : (h : Choice) → T (single h) → preferred (Some (weight_of h)) (weight_of c) ≡ weight_of h
  prefer_held h s = ap (λ (b : Bool). cond (b || not (single c)) (weight_of h) (weight_of c)) (T_is (single h) s)

  prefer_first : (h : Choice) → T (not (single h)) → preferred (Some (weight_of h)) (weight_of c) ≡ weight_of (cond (single c) c h)
  prefer_first h s = ap (λ (b : Bool). cond (b || not (single c)) (weight_of h) (weight_of c)) (T_isnt (single h) (T_not (single h) s)) ∙ go (single c)
    where
      go : (b : Bool) → cond (not b) (weight_of h) (weight_of c) ≡ weight_of (cond b c h)
      go true = refl
      go false = refl

  chosen_one : chosen (c ∷ []) ≡ c
  unfolding chosen lowest keep
  chosen_one = go (single c)
    where
      go : (b : Bool) → lowest (cond b (c ∷ []) [] ++ (c ∷ [])) ≡ c
      go true = refl
      go false = refl

  keep_one : (m : List Choice) → lowest (keep single (c ∷ []) ++ m) ≡ cond (single c) c (lowest m)
  unfolding keep lowest
  keep_one m = go (single c)
    where
      go : (b : Bool) → lowest (cond b (c ∷ []) [] ++ m) ≡ cond b c (lowest m)
      go true = refl
      go false = refl

  -- h is held of cs, and so it is what they weigh
  holding : (cs : List Choice) (h : Choice) → Open h → chosen cs ≡ h → (w : Weight) → preferred (Some (weight_of h)) (weight_of c) ≡ w → Some w ≡ Some (preferred (held_of (chosen cs)) (weight_of c))
  holding cs h p e w q = ap Some (sym q) ∙ ap (λ (x : Option Weight). Some (preferred x (weight_of c))) (sym (held_open h p) ∙ ap held_of (sym e))

  held_new : (cs : List Choice) → All Open cs → held_of (chosen (cs ++ (c ∷ []))) ≡ Some (preferred (held_of (chosen cs)) (weight_of c))
  unfolding chosen lowest keep
  held_new [] a = ap held_of chosen_one ∙ held_open c o
  held_new (x ∷ xs) a = ⊎_elim many some (eq-zero-or-pos (length (keep single cs)))
    where
      cs : List Choice
      cs = x ∷ xs

      more : keep single (cs ++ (c ∷ [])) ++ (cs ++ (c ∷ [])) ≡ keep single cs ++ (keep single (c ∷ []) ++ (cs ++ (c ∷ [])))
      more = ap (λ (l : List Choice). l ++ (cs ++ (c ∷ []))) (keep_append single cs (c ∷ [])) ∙ append_assoc (keep single cs) (keep single (c ∷ [])) (cs ++ (c ∷ []))

      -- one with exactly one land is held
      some : 1 ≤ length (keep single cs) → held_of (chosen (cs ++ (c ∷ []))) ≡ Some (preferred (held_of (chosen cs)) (weight_of c))
      some h =
          let first = lowest (keep single cs) in
          let s = lowest_single cs h in
          ap (λ (l : List Choice). held_of (lowest l)) more
          ∙ ap held_of (lowest_first (keep single cs) (keep single (c ∷ []) ++ (cs ++ (c ∷ []))) h)
          ∙ held_open first (open_single first s)
          ∙ holding cs first (open_single first s) (lowest_first (keep single cs) cs h) (weight_of first) (prefer_held first s)

      -- none has exactly one, and the lowest is held
      many : length (keep single cs) ≡ 0 → held_of (chosen (cs ++ (c ∷ []))) ≡ Some (preferred (held_of (chosen cs)) (weight_of c))
      many e =
          let k : keep single cs ≡ [] = none_kept single cs (keep_none single cs e) in
          let later = cond (single c) c x in
          ap (λ (l : List Choice). held_of (lowest l)) (more ∙ ap (λ (l : List Choice). l ++ (keep single (c ∷ []) ++ (cs ++ (c ∷ [])))) k)
          ∙ ap held_of (keep_one (cs ++ (c ∷ [])))
          ∙ held_open later (cond_cases Open (single c) (λ t. o) (λ t. a.0))
          ∙ holding cs x a.0 (ap (λ (l : List Choice). lowest (l ++ cs)) k) (weight_of later) (prefer_first x (keep_none single cs e).0)

  -- the weight w of c, told
  pub held_more : (k : ℕ) → c.fragment.name ≡ k → (w : Weight) → Some w ≡ weighed k c.fits → (cs : List Choice) → All Open cs → (h : Option Weight) → h ≡ held_of (chosen cs)
      → Some (preferred h w) ≡ held_of (chosen (cs ++ (c ∷ [])))
  held_more k n w e cs a h q =
      ap (λ (u : Weight). Some (preferred h u)) (some_is w (weight_of c) (e ∙ ap (λ (m : ℕ). weighed m c.fits) (sym n) ∙ held_open c o))
      ∙ ap (λ (x : Option Weight). Some (preferred x (weight_of c))) q ∙ sym (held_new cs a)

-- ---- the three answers

module _ (v : ℕ) (ends : List ℕ) (play : List Bool) (t : List ℕ) (ls : List (List ℕ)) where
  abbrev lp : List Bool
  lp = laid_by v ends t

  abbrev choice : Fragment → Choice
  choice = choice_of v ends play lp ls

  abbrev total : List Fragment
  total = fragments v ends play t lp (from 0 (length play)) []

  pub flat_told : all_laid v ends play t ≡ true → Flat ≡ verdict_of (judge v ends play (state_of t ls))
  unfolding judge
  flat_told e = sym (ap (λ (b : Bool). verdict_of (cond b flat (stuck_or (keep without (choices v ends play (state_of t ls))) (ready (chosen (choices v ends play (state_of t ls))))))) e)

  -- not all is laid: what the choices say
  judged : all_laid v ends play t ≡ false → (cs : List Choice) → map choice total ≡ cs → verdict_of (stuck_or (keep without cs) (ready (chosen cs))) ≡ verdict_of (judge v ends play (state_of t ls))
  unfolding judge choices
  judged e cs q =
      sym (ap (λ (b : Bool). verdict_of (cond b flat (stuck_or (keep without (map choice total)) (ready (chosen (map choice total)))))) e
      ∙ ap (λ (ds : List Choice). verdict_of (stuck_or (keep without ds) (ready (chosen ds)))) q)

  without_all : (cs : List Choice) → All Open cs → All (λ x. T (not (without x))) cs
  without_all cs a = all_weaken Open (λ x. T (not (without x))) open_without cs a

  -- the fragments fs all have an admissible land, and the next has none
  pub stuck_told : all_laid v ends play t ≡ false → (fs : List Fragment) (f : Fragment) (ks : List ℕ) → fragments v ends play t lp ks (fs ++ (f ∷ [])) ≡ total
      → All Open (map choice fs) → length (choice f).fits ≡ 0 → Stuck f.name ≡ verdict_of (judge v ends play (state_of t ls))
  unfolding stuck_or keep without choice_of
  stuck_told e fs f ks q a z =
      let r = fragments_rest v ends play t lp ks (fs ++ (f ∷ [])) in
      let gs = map choice r.0 in
      let cut : map choice total ≡ map choice fs ++ (choice f ∷ gs) =
      ap (map choice) (sym q ∙ r.1 ∙ append_assoc fs (f ∷ []) r.0) ∙ map-append choice fs (f ∷ r.0) in
      let first : keep without (map choice fs ++ (choice f ∷ gs)) ≡ choice f ∷ keep without gs =
      keep_append without (map choice fs) (choice f ∷ gs) ∙ ap (λ (l : List Choice). l ++ keep without (choice f ∷ gs)) (none_kept without (map choice fs) (without_all (map choice fs) a))
      ∙ rw (T_is (eqb (length (choice f).fits) 0) (eq_eqb (length (choice f).fits) 0 z)) in
      sym (ap (λ (l : List Choice). verdict_of (stuck_or l (ready (chosen (map choice fs ++ (choice f ∷ gs)))))) first) ∙ judged e (map choice fs ++ (choice f ∷ gs)) cut

  -- every fragment has an admissible land
  pub ready_told : all_laid v ends play t ≡ false → (fs : List Fragment) → fs ≡ total → All Open (map choice fs) → (w : Weight) → Some w ≡ held_of (chosen (map choice fs))
      → Ready w.choice ≡ verdict_of (judge v ends play (state_of t ls))
  unfolding stuck_or
  ready_told e fs q a w r =
      ap Ready (weighed_choice (chosen (map choice fs)).fragment.name (chosen (map choice fs)).fits w r)
      ∙ sym (ap (λ (l : List Choice). verdict_of (stuck_or l (ready (chosen (map choice fs))))) (none_kept without (map choice fs) (without_all (map choice fs) a)))
      ∙ judged e (map choice fs) (ap (map choice) (sym q))

  -- and there is one, so that something is held
  pub some_held : all_laid v ends play t ≡ false → (fs : List Fragment) → fs ≡ total → All Open (map choice fs) → None ≡ held_of (chosen (map choice fs)) → ⊥
  unfolding choices
  some_held e fs q a r =
      let some : 1 ≤ length (map choice total) = choices_some v ends play (state_of t ls) (rw e tt) in
      let chosen_open : Open (chosen (map choice fs)) = chosen_in Open (map choice fs) a (omega (arith, some, ap (λ (gs : List Fragment). length (map choice gs)) q)) in
      not-suc-le-zero {n = 0} (omega (arith, chosen_open, weighed_none (chosen (map choice fs)).fragment.name (chosen (map choice fs)).fits r))
