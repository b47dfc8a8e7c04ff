-- What is known of the lands (fragment, "Bars"), forgotten for the channels of a fragment and kept for the others (specs, "Rooms").
--   Forgot own old new j     before place j the numbers of new are those of old forgotten, and from j on they are those of old
--   z                        the state after the path
-- forgotten_..: what is forgotten, and what stays. forgot_..: the invariant of the loop that forgets. bars_stay: what is known after a path.
-- Assumes nothing.
use mathlib.Core.Path.{◌≡◌, refl, sym, ap, ◌∙◌, subst}
use mathlib.Core.Logic.{◌≢◌, ◌⊎◌, inl, inr, ⊎_elim}
use mathlib.Core.Bool.{Bool, true, false, cond}
use mathlib.Core.List.{List, map}
use Prim.Native.Nat.{ℕ, ◌+◌, ◌*◌, ◌/◌, ◌≤◌, ◌<◌}
use native.Mathlib.Nat.{not-suc-le-zero, zero-add}
use native.Mathlib.Decide.{dec_lt}
use native.Mathlib.Omega.{arith}
use lib.Dec.{T}
use lib.ListN.{length, get_or, set, length-set, get_or-eq_default}
use lib.Seq.{get_or-set_same, get_or-set_other, ext_get_or}
use Rattle.rules.specs.Lists.{from, at}
use Rattle.rules.specs.Laying.{State, Fragment, Choice, within, fragment_at, contacts_of, lay}
use Rattle.laws.proofs.Counts.{is_cases, is_apart}
use Rattle.laws.proofs.Sets.{at_lt}
use Rattle.laws.proofs.Runs.{channel_of}
use Rattle.laws.proofs.Rounds.{Layable}
use Rattle.laws.proofs.Keeping.{Misses, misses_stays}
use Rattle.laws.proofs.Seeking.{length_map_from, get_or_map_from}
use Rattle.land.specs.Walks.{lands}
use Rattle.fragment.specs.Rounds.{laid_by}
use Rattle.fragment.specs.Bars.{Passed, Bars}
use Rattle.fragment.proofs.Barring.{passed_as, passed_none}
use Rattle.split.proofs.Laws.{holds_lands}
use Rattle.step.specs.Rooms.{forgotten, Standing, Chosen}
use Rattle.step.proofs.Same.{own_is}
use Rattle.step.proofs.Telling.{chosen_fragment}

-- ---- what is forgotten

length_forgotten : (own : List Bool) (bars : List ℕ) → length (forgotten own bars) ≡ length bars
unfolding forgotten
length_forgotten own bars = length_map_from (λ j. cond (at own (j / 2)) 0 (get_or bars j 0)) 0 (length bars)

forgotten_at : (own : List Bool) (bars : List ℕ) (j : ℕ) → j < length bars → get_or (forgotten own bars) j 0 ≡ cond (at own (j / 2)) 0 (get_or bars j 0)
unfolding forgotten
forgotten_at own bars j h =
    get_or_map_from (λ j. cond (at own (j / 2)) 0 (get_or bars j 0)) 0 (length bars) j 0 h ∙ ap (λ (k : ℕ). cond (at own (k / 2)) 0 (get_or bars k 0)) (zero-add j)

-- where a channel is flagged nothing is left, and where it is not all stays
forgotten_own : (own : List Bool) (bars : List ℕ) (j : ℕ) → j < length bars → at own (j / 2) ≡ true → get_or (forgotten own bars) j 0 ≡ 0
forgotten_own own bars j h o = forgotten_at own bars j h ∙ ap (λ (t : Bool). cond t 0 (get_or bars j 0)) o

forgotten_other : (own : List Bool) (bars : List ℕ) (j : ℕ) → j < length bars → at own (j / 2) ≡ false → get_or (forgotten own bars) j 0 ≡ get_or bars j 0
forgotten_other own bars j h o = forgotten_at own bars j h ∙ ap (λ (t : Bool). cond t 0 (get_or bars j 0)) o

forgotten_le : (own : List Bool) (bars : List ℕ) (j : ℕ) → get_or (forgotten own bars) j 0 ≤ get_or bars j 0
forgotten_le own bars j = go (dec_lt j (length bars)) (at own (j / 2)) refl
  where
    go : Dec (j < length bars) → (b : Bool) → at own (j / 2) ≡ b → get_or (forgotten own bars) j 0 ≤ get_or bars j 0
    go (yes h) true e = omega (arith, forgotten_own own bars j h e)
    go (yes h) false e = omega (arith, forgotten_other own bars j h e)
    go (no h) b e = omega (arith, get_or-eq_default (forgotten own bars) 0 {n = j} (omega (arith, length_forgotten own bars)))

-- ---- the loop

pub record Forgot (own : List Bool) (old new : List ℕ) (j : ℕ) : Type 0 where
  pub size : length new ≡ length old
  pub most : j ≤ length old
  pub done : (k : ℕ) → k < j → get_or new k 0 ≡ cond (at own (k / 2)) 0 (get_or old k 0)
  pub left : (k : ℕ) → j ≤ k → get_or new k 0 ≡ get_or old k 0

pub forgot_start : (own : List Bool) (bars : List ℕ) → Forgot own bars bars 0
forgot_start own bars = record { size = refl; most = omega arith; done = λ k h. absurd (not-suc-le-zero h); left = λ k h. refl }

pub forgot_step : (own : List Bool) (old new : List ℕ) (j : ℕ) (new' : List ℕ) → Forgot own old new j → j < length old
    → ((at own (j / 2) ≡ true) × (new' ≡ set new j 0)) ⊎ ((at own (j / 2) ≡ false) × (new' ≡ new)) → Forgot own old new' (j + 1)
forgot_step own old new j new' F h (inl w) = rw w.1 (record {
  size = length-set new j 0 ∙ F.size;
  most = omega arith;
  done = λ k b. ⊎_elim
      (λ e. ap (λ (i : ℕ). get_or (set new j 0) i 0) e ∙ get_or-set_same new j 0 0 (omega (arith, F.size)) ∙ sym (ap (λ (i : ℕ). cond (at own (i / 2)) 0 (get_or old k 0)) e ∙ ap (λ (t : Bool). cond t 0 (get_or old k 0)) w.0))
      (λ n. let ne : k ≢ j = is_apart k j n in get_or-set_other new j k 0 0 ne ∙ F.done k (omega arith)) (is_cases k j);
  left = λ k b. get_or-set_other new j k 0 0 (λ e. omega arith) ∙ F.left k (omega arith);
})
forgot_step own old new j new' F h (inr w) = rw w.1 (record {
  size = F.size;
  most = omega arith;
  done = λ k b. ⊎_elim
      (λ e. F.left k (omega arith) ∙ sym (ap (λ (i : ℕ). cond (at own (i / 2)) 0 (get_or old k 0)) e ∙ ap (λ (t : Bool). cond t 0 (get_or old k 0)) w.0))
      (λ n. let ne : k ≢ j = is_apart k j n in F.done k (omega arith)) (is_cases k j);
  left = λ k b. F.left k (omega arith);
})

pub forgot_end : (own : List Bool) (old new : List ℕ) (j : ℕ) → Forgot own old new j → length old ≤ j → new ≡ forgotten own old
forgot_end own old new j F h =
    ext_get_or 0 new (forgotten own old) (F.size ∙ sym (length_forgotten own old)) (λ k b. F.done k (omega (arith, F.size)) ∙ sym (forgotten_at own old k (omega (arith, F.size))))

-- ---- after a path

module _ (v : ℕ) (ends : List ℕ) (play : List Bool) (G : Layable v ends play) (s : State) (c : Choice) (t fs ns st : List ℕ) (n p : ℕ) (lp : List Bool) (name land : ℕ)
    (C : Chosen v ends play s c t fs ns st n p lp name land) (t' fs' ns' st' : List ℕ) (p' : ℕ) (S : Standing v ends play (lay v ends play s c) t' fs' ns' st' (n + 1) p')
    (own : List Bool) (eo : own ≡ map (λ j. within v ends play (fragment_at v ends play lp name) (2 * j)) (from 0 (length play))) (bars : List ℕ) (B : Bars v ends play t (lands t fs ns n) bars) where
  abbrev z : State
  z = lay v ends play s c

  -- what was known of the lands of the state
  known : Bars v ends play s.turns s.lands bars
  known =
      let H = C.stands.holds in
      subst (λ (u : List ℕ). Bars v ends play u s.lands bars) H.turns (subst (λ (ls : List (List ℕ)). Bars v ends play t ls bars) (holds_lands ends play s C.stands.kept t fs ns n H) B)

  -- own flags the channels of the fragment
  flagged : (k : ℕ) → T (at play k) → at own k ≡ within v ends play c.fragment (2 * k)
  flagged k o =
      ap (at own) (sym (channel_of k)) ∙ own_is v ends play (fragment_at v ends play lp name) own G.size2 eo (2 * k) (omega (arith, at_lt play k o, G.size2))
      ∙ ap (λ (f : Fragment). within v ends play f (2 * k)) (sym (chosen_fragment v ends play G s c t fs ns st n p lp name land C))

  -- the two places of a channel in play
  places : (k : ℕ) → T (at play k) → (2 * k < length bars) × (2 * k + 1 < length bars)
  places k o = (omega (arith, at_lt play k o, G.size2, B.long), omega (arith, at_lt play k o, G.size2, B.long))

  -- a channel that is not flagged
  still : (k i : ℕ) → T (at play k) → at own k ≡ false → i < length s.lands → Misses v ends play s.turns s.lands k i → Misses v ends play z.turns z.lands k i
  still k i o e b h = misses_stays v ends play G s C.stands.kept c C.sensible C.opens k o (sym (flagged k o) ∙ e) i b h

  told_stays : (k : ℕ) → T (at play k)
      → Passed ends (contacts_of v ends play (laid_by v ends z.turns) (fragment_at v ends play (laid_by v ends z.turns) k)) z.lands (get_or (forgotten own bars) (2 * k) 0) (get_or (forgotten own bars) (2 * k + 1) 0)
  told_stays k o = go (at own k) refl
    where
      half : (2 * k + 1) / 2 ≡ k
      half = omega arith

      go : (b : Bool) → at own k ≡ b
          → Passed ends (contacts_of v ends play (laid_by v ends z.turns) (fragment_at v ends play (laid_by v ends z.turns) k)) z.lands (get_or (forgotten own bars) (2 * k) 0) (get_or (forgotten own bars) (2 * k + 1) 0)
      go true e = passed_none ends _ z.lands _ _ (forgotten_own own bars (2 * k) (places k o).0 (ap (at own) (channel_of k) ∙ e)) (forgotten_own own bars (2 * k + 1) (places k o).1 (ap (at own) half ∙ e))
      go false e =
          let p = known.told k o in
          passed_as ends _ z.lands _ _ _ _ (forgotten_other own bars (2 * k) (places k o).0 (ap (at own) (channel_of k) ∙ e)) (forgotten_other own bars (2 * k + 1) (places k o).1 (ap (at own) half ∙ e)) (record {
            first = omega (arith, p.first, C.stands.holds.count, S.holds.count);
            second = omega (arith, p.second, C.stands.holds.count, S.holds.count);
            low = λ i h. still k i o e (omega (arith, h, p.first)) (p.low i h);
            between = λ i l h. still k i o e (omega (arith, h, p.second)) (p.between i l h);
          })

  -- what is known afterwards
  pub bars_stay : (bars' : List ℕ) → bars' ≡ forgotten own bars → Bars v ends play t' (lands t' fs' ns' (n + 1)) bars'
  bars_stay bars' e =
      let H = S.holds in
      rw e
      (subst (λ (ls : List (List ℕ)). Bars v ends play t' ls (forgotten own bars)) (sym (holds_lands ends play z S.kept t' fs' ns' (n + 1) H))
      (subst (λ (u : List ℕ). Bars v ends play u z.lands (forgotten own bars)) (sym H.turns) (record {
        long = length_forgotten own bars ∙ B.long;
        most = λ j. omega (arith, forgotten_le own bars j, known.most j, C.stands.holds.count, H.count);
        told = told_stays;
      })))
