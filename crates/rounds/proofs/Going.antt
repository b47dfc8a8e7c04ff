-- The rounds (rules, "Laying"), one after another: what follows each.
-- judged: the verdict depends on turns and lands alone. ready_of: a verdict of the code to go on has a choice. lays_ready: where a path is laid, the round says so, and n are not laid yet. ended: where the round or n ends them. going: a path laid is one of the rounds.
-- Assumes nothing.
use mathlib.Core.Path.{◌≡◌, refl, sym, ap, ◌∙◌, subst}
use mathlib.Core.Logic.{◌≢◌}
use mathlib.Core.Bool.{Bool}
use mathlib.Core.List.{List}
use Prim.Native.Nat.{ℕ, zero, suc, ◌+◌, ◌-◌, ◌<◌, ◌≤◌}
use native.Mathlib.Omega.{arith}
use lib.Dec.{eqb, eqb→eq}
use lib.ListN.{length, get_or}
use Rattle.std.specs.declared.ops.ControlFlow.{ControlFlow}
use Rattle.std.specs.declared.ops.ControlFlow.TheVariants.{Continue, Break}
use Rattle.rules.specs.Laying.{State, Choice, Verdict, flat, stuck, ready, FLAT, STUCK, PARTIAL, Outcome, choices, lay, judge, rounds, first_channel, start, first_cycle, laying}
use Rattle.laws.proofs.Tests.{cond_cases, neqb_ne}
use Rattle.laws.proofs.Choices.{Open, Sensible, Ready as Go, choices_sensible, judge_ready}
use Rattle.laws.proofs.Rounds.{Kept}
use Rattle.reach.specs.Floods.{Tables}
use Rattle.land.specs.Walks.{lands}
use Rattle.split.specs.declared.Laying.{Laying}
use Rattle.split.specs.Kept.{Kept as LayingKept}
use Rattle.split.proofs.Laws.{Holds, holds_lands}
use Rattle.fragment.specs.declared.Verdict.{Verdict as Said}
use Rattle.fragment.specs.declared.Verdict.TheVariants.{Flat as SaidFlat, Stuck as SaidStuck, Ready as SaidReady}
use Rattle.fragment.specs.declared.Choice.{Choice as Named}
use Rattle.fragment.specs.declared.Desk.{Desk}
use Rattle.fragment.specs.Desks.{Kept as DeskKept}
use Rattle.fragment.specs.Rounds.{state_of, verdict_of, laid_by}
use Rattle.fragment.specs.Bars.{Bars}
use Rattle.step.specs.Stories.{story_of}
use Rattle.step.specs.Rooms.{Standing, Chosen, Plan}
use Rattle.step.proofs.Keeping.{desk_then, roomy_then}
use Rattle.step.proofs.Telling.{lands_few, place_most, count_paths}
use Rattle.rounds.specs.declared.Word.{Word}
use Rattle.rounds.specs.declared.Word.TheVariants.{Flat, Stuck, Partial}
use Rattle.rounds.specs.Words.{said_by_round, said_by_cap, first_said, after_round, word_in, name_in, said_of}
use Rattle.rounds.specs.Rooms.{Under, Round, Left}

-- ---- the verdict

judge_same : (v : ℕ) (ends : List ℕ) (play : List Bool) (s : State) → judge v ends play (state_of s.turns s.lands) ≡ judge v ends play s
unfolding judge choices
judge_same v ends play s = refl

-- the verdict on what is held is the one on the state
pub judged : (v : ℕ) (ends : List ℕ) (play : List Bool) (s : State) (t fs ns : List ℕ) (n : ℕ) → Kept ends play s → Holds s t fs ns n
    → judge v ends play (state_of t (lands t fs ns n)) ≡ judge v ends play s
judged v ends play s t fs ns n K H =
    ap (λ (u : List ℕ). judge v ends play (state_of u (lands t fs ns n))) H.turns
    ∙ ap (λ (ls : List (List ℕ)). judge v ends play (state_of s.turns ls)) (holds_lands ends play s K t fs ns n H)
    ∙ judge_same v ends play s

pub ready_of : (j : Verdict) (c : Named) → SaidReady c ≡ verdict_of j → (e : Choice) × (j ≡ ready e) × (c.name ≡ e.fragment.name) × (c.land ≡ get_or e.fits 0 0)
ready_of flat c h = let z : ◌≡◌ {A = ℕ} 0 1 = cc in absurd (omega arith)
ready_of (stuck k) c h = let z : ◌≡◌ {A = ℕ} 0 1 = cc in absurd (omega arith)
ready_of (ready e) c h = let q : c ≡ record { name = e.fragment.name; land = get_or e.fits 0 0 } = cc in (e, refl, ap (λ (d : Named). d.name) q, ap (λ (d : Named). d.land) q)

-- ---- the rounds

rounds_ready : (v : ℕ) (ends : List ℕ) (play : List Bool) (m : ℕ) (s : State) (e : Choice) → judge v ends play s ≡ ready e → rounds v ends play (suc m) s ≡ rounds v ends play m (lay v ends play s e)
unfolding rounds
rounds_ready v ends play m s e h = ap (λ (j : Verdict). elim j as (λ w. Outcome) [ flat ↦ record { word = FLAT; name = 0; state = s } | stuck k ↦ record { word = STUCK; name = k; state = s } | ready c ↦ rounds v ends play m (lay v ends play s c) ]) h

rounds_none : (v : ℕ) (ends : List ℕ) (play : List Bool) (s : State) (e : Choice) → judge v ends play s ≡ ready e → rounds v ends play 0 s ≡ record { word = PARTIAL; name = 0; state = s }
unfolding rounds
rounds_none v ends play s e h = ap (λ (j : Verdict). elim j as (λ w. Outcome) [ flat ↦ record { word = FLAT; name = 0; state = s } | stuck k ↦ record { word = STUCK; name = k; state = s } | ready c ↦ record { word = PARTIAL; name = 0; state = s } ]) h

rounds_flat : (v : ℕ) (ends : List ℕ) (play : List Bool) (m : ℕ) (s : State) → judge v ends play s ≡ flat → rounds v ends play m s ≡ record { word = FLAT; name = 0; state = s }
unfolding rounds
rounds_flat v ends play zero s h = ap (λ (j : Verdict). elim j as (λ w. Outcome) [ flat ↦ record { word = FLAT; name = 0; state = s } | stuck k ↦ record { word = STUCK; name = k; state = s } | ready c ↦ record { word = PARTIAL; name = 0; state = s } ]) h
rounds_flat v ends play (suc m) s h = ap (λ (j : Verdict). elim j as (λ w. Outcome) [ flat ↦ record { word = FLAT; name = 0; state = s } | stuck k ↦ record { word = STUCK; name = k; state = s } | ready c ↦ rounds v ends play m (lay v ends play s c) ]) h

rounds_stuck : (v : ℕ) (ends : List ℕ) (play : List Bool) (m : ℕ) (s : State) (k : ℕ) → judge v ends play s ≡ stuck k → rounds v ends play m s ≡ record { word = STUCK; name = k; state = s }
unfolding rounds
rounds_stuck v ends play zero s k h = ap (λ (j : Verdict). elim j as (λ w. Outcome) [ flat ↦ record { word = FLAT; name = 0; state = s } | stuck i ↦ record { word = STUCK; name = i; state = s } | ready c ↦ record { word = PARTIAL; name = 0; state = s } ]) h
rounds_stuck v ends play (suc m) s k h = ap (λ (j : Verdict). elim j as (λ w. Outcome) [ flat ↦ record { word = FLAT; name = 0; state = s } | stuck i ↦ record { word = STUCK; name = i; state = s } | ready c ↦ rounds v ends play m (lay v ends play s c) ]) h

-- ---- what follows a round

-- what the round says, then what n says, the first of the two
pub in_order_lem : (said : Said) (p n : ℕ) (x y r : ControlFlow Word Named) → x ≡ said_by_round said → y ≡ said_by_cap p n x → r ≡ first_said x y → r ≡ after_round said p n
in_order_lem said p n x y r e f g = g ∙ ap (first_said x) f ∙ ap (λ (z : ControlFlow Word Named). first_said z (said_by_cap p n z)) e

-- the end of the laying is no path
ends_lays : (w : Word) (c : Named) → ◌≡◌ {A = ControlFlow Word Named} (Break w) (Continue c) → ⊥
ends_lays w c h = let z : ◌≡◌ {A = ℕ} 0 1 = cc in absurd (omega arith)

-- where it ends, the word of a round to go on is PARTIAL, and n paths are laid
ends_ready : (c : Named) (p n : ℕ) (w : Word) → Break w ≡ after_round (SaidReady c) p n → (w ≡ Partial) × (p ≡ n)
ends_ready c p n w =
    cond_cases (λ (x : ControlFlow Word Named). Break w ≡ x → (w ≡ Partial) × (p ≡ n)) (eqb p n) (λ t h. (cc, eqb→eq p n t)) (λ t h. absurd (ends_lays w c h))

-- where a path is laid, the round says so, and fewer than n are laid
pub lays_ready : (said : Said) (c : Named) (p n : ℕ) → Continue c ≡ after_round said p n → (said ≡ SaidReady c) × (p ≢ n)
lays_ready SaidFlat c p n h = absurd (ends_lays Flat c (sym h))
lays_ready (SaidStuck k) c p n h = absurd (ends_lays (Stuck k) c (sym h))
lays_ready (SaidReady d) c p n h =
    cond_cases (λ (x : ControlFlow Word Named). Continue c ≡ x → (SaidReady d ≡ SaidReady c) × (p ≢ n)) (eqb p n) (λ t e. absurd (ends_lays Partial c (sym e))) (λ t e. (cc, neqb_ne p n t)) h

module _ (v : ℕ) (ends : List ℕ) (play : List Bool) (n : ℕ) (L : Plan v ends play) (t fs ns st : List ℕ) (count place : ℕ) (U : Under v ends play n t fs ns st count place) where
  abbrev s : State
  s = U.state

  abbrev left : ℕ
  left = n - length s.paths

  pub verdict : (said : Said) → said ≡ verdict_of (judge v ends play (state_of t (lands t fs ns count))) → said ≡ verdict_of (judge v ends play s)
  verdict said h = h ∙ ap verdict_of (judged v ends play s t fs ns count U.stands.kept U.stands.holds)

  -- what is left, where the rounds end with the word w at s
  left_so : (first more : List ℕ) → Tables v ends first more → (w : Word) → rounds v ends play left s ≡ record { word = word_in w; name = name_in w; state = s } → Left v ends play n first more t fs ns st (record { word = w; paths = count - 2; lands = count; story = place })
  left_so first more B w e =
      let o : laying v ends play n ≡ record { word = word_in w; name = name_in w; state = s } = sym U.goes ∙ e in
      let p : count - 2 ≡ length s.paths = omega (arith, count_paths v ends play L.layable s t fs ns st count place U.stands) in
      record {
        said = ap (λ (m : ℕ). record { word = word_in w; paths = m; name = name_in w }) p ∙ ap said_of (sym o);
        holds = subst (λ (z : Outcome). Holds z.state t fs ns count) (sym o) U.stands.holds;
        told = U.stands.told ∙ ap (λ (z : Outcome). story_of (first_cycle v ends play) z.state.paths) (sym o);
        most = place_most v ends play L.layable s t fs ns st count place U.stands;
        tables = B;
      }

  -- what is left, where the end with the word w follows the round
  pub ended : (first more : List ℕ) → Tables v ends first more → (said : Said) → said ≡ verdict_of (judge v ends play (state_of t (lands t fs ns count))) → (w : Word) → Break w ≡ after_round said (count - 2) n → Left v ends play n first more t fs ns st (record { word = w; paths = count - 2; lands = count; story = place })
  ended first more B said h w e = go (judge v ends play s) refl (e ∙ ap (λ (d : Said). after_round d (count - 2) n) (verdict said h))
    where
      go : (j : Verdict) → judge v ends play s ≡ j → Break w ≡ after_round (verdict_of j) (count - 2) n → Left v ends play n first more t fs ns st (record { word = w; paths = count - 2; lands = count; story = place })
      go flat e f = let q : w ≡ Flat = cc in left_so first more B w (rounds_flat v ends play left s e ∙ ap (λ (x : Word). record { word = word_in x; name = name_in x; state = s }) (sym q))
      go (stuck k) e f = let q : w ≡ Stuck k = cc in left_so first more B w (rounds_stuck v ends play left s k e ∙ ap (λ (x : Word). record { word = word_in x; name = name_in x; state = s }) (sym q))
      go (ready a) e f =
          let q = ends_ready _ (count - 2) n w f in
          let z : left ≡ 0 = omega (arith, q.1, count_paths v ends play L.layable s t fs ns st count place U.stands) in
          left_so first more B w (ap (λ (k : ℕ). rounds v ends play k s) z ∙ rounds_none v ends play s a e ∙ ap (λ (x : Word). record { word = word_in x; name = name_in x; state = s }) (sym q.0))

  module _ (c : Named) (h : SaidReady c ≡ verdict_of (judge v ends play (state_of t (lands t fs ns count)))) where
    abbrev pub found : (e : Choice) × (judge v ends play s ≡ ready e) × (c.name ≡ e.fragment.name) × (c.land ≡ get_or e.fits 0 0)
    found = ready_of (judge v ends play s) c (verdict (SaidReady c) h)

    sensible : Sensible v ends play s found.0 × Open found.0
    sensible = subst (Go (λ e. Sensible v ends play s e × Open e)) found.1 (judge_ready v ends play s (Sensible v ends play s) (choices_sensible v ends play s))

    pub chosen : (lp : List Bool) → lp ≡ laid_by v ends t → Chosen v ends play s found.0 t fs ns st count place lp c.name c.land
    chosen lp e = record {
      stands = U.stands;
      sensible = sensible.0;
      opens = sensible.1;
      ports = e;
      names = found.2;
      lands = found.3;
    }

    pub going : count - 2 ≢ n → (t' fs' ns' st' : List ℕ) (place' : ℕ) → Standing v ends play (lay v ends play s found.0) t' fs' ns' st' (count + 1) place' → Under v ends play n t' fs' ns' st' (count + 1) place'
    going ne t' fs' ns' st' place' S =
        let p : count ≡ length s.paths + 2 = count_paths v ends play L.layable s t fs ns st count place U.stands in
        let p' : count + 1 ≡ length (lay v ends play s found.0).paths + 2 = count_paths v ends play L.layable (lay v ends play s found.0) t' fs' ns' st' (count + 1) place' S in
        let more : length s.paths < n = omega (arith, U.most) in
        let e : left ≡ suc (n - length (lay v ends play s found.0).paths) = omega arith in
        record {
          state = lay v ends play s found.0;
          stands = S;
          most = omega arith;
          goes = sym (rounds_ready v ends play (n - length (lay v ends play s found.0).paths) s found.0 found.1) ∙ ap (λ (k : ℕ). rounds v ends play k s) (sym e) ∙ U.goes;
        }

-- ---- one round of the code

pub count_few : (v : ℕ) (ends : List ℕ) (play : List Bool) (n : ℕ) → Plan v ends play → (t fs ns st : List ℕ) (count place : ℕ) → Under v ends play n t fs ns st count place → (2 ≤ count) × (count ≤ length play + 2)
count_few v ends play n L t fs ns st count place U = (
  omega (arith, count_paths v ends play L.layable U.state t fs ns st count place U.stands),
  omega (arith, U.stands.holds.count, lands_few v ends play L.layable U.state U.stands.kept),
)

-- what keeps twice keeps
laying_then : (l m k : Laying) → LayingKept l m → LayingKept m k → LayingKept l k
laying_then l m k a b = (b.0 ∙ a.0, b.1 ∙ a.1, b.2 ∙ a.2, b.3 ∙ a.3, b.4 ∙ a.4, b.5 ∙ a.5)

module _ (v : ℕ) (ends : List ℕ) (play : List Bool) (n : ℕ) (L : Plan v ends play) (l₀ l : Laying) (laid : List Bool) (d₀ d : Desk) (st₀ st : List ℕ) (place : ℕ) (bars : List ℕ)
    (R : Round v ends play n l₀ l laid d₀ d st₀ st place bars)
    (c : Named) (h : SaidReady c ≡ verdict_of (judge v ends play (state_of l.turns.now (lands l.turns.now l.firsts.now l.lens.now l.count)))) (laid' : List Bool) (lp : laid' ≡ laid_by v ends l.turns.now) where
  abbrev a₀ : Choice
  a₀ = (found v ends play n L l.turns.now l.firsts.now l.lens.now st l.count place R.under c h).0

  C : Chosen v ends play R.under.state a₀ l.turns.now l.firsts.now l.lens.now st l.count place laid' c.name c.land
  C = chosen v ends play n L l.turns.now l.firsts.now l.lens.now st l.count place R.under c h laid' lp

  -- the choice of the round, for which the path is laid
  pub choice_so : (s : State) × ((a : Choice) × Chosen v ends play s a l.turns.now l.firsts.now l.lens.now st l.count place laid' c.name c.land)
  choice_so = (R.under.state, (a₀, C))

  pub next_round : l.count - 2 ≢ n → (l' : Laying) (d' d'' : Desk) (st' : List ℕ) (place' : ℕ) (bars' : List ℕ)
      → ((s : State) (a : Choice) → Chosen v ends play s a l.turns.now l.firsts.now l.lens.now st l.count place laid' c.name c.land → Standing v ends play (lay v ends play s a) l'.turns.now l'.firsts.now l'.lens.now st' l'.count place')
      → l'.count ≡ l.count + 1 → length laid' ≡ length laid → LayingKept l l' → DeskKept d d' → DeskKept d' d'' → length st' ≡ length st
      → Bars v ends play l'.turns.now (lands l'.turns.now l'.firsts.now l'.lens.now l'.count) bars'
      → Round v ends play n l₀ l' laid' d₀ d'' st₀ st' place' bars'
  next_round ne l' d' d'' st' place' bars' F e el kl kd kd' es b =
      let k = desk_then d d' d'' kd kd' in
      record {
        under =
            subst (λ (m : ℕ). Under v ends play n l'.turns.now l'.firsts.now l'.lens.now st' m place') (sym e)
            (going v ends play n L l.turns.now l.firsts.now l.lens.now st l.count place R.under c h ne l'.turns.now l'.firsts.now l'.lens.now st' place'
            (subst (λ (m : ℕ). Standing v ends play (lay v ends play R.under.state a₀) l'.turns.now l'.firsts.now l'.lens.now st' m place') e (F R.under.state a₀ C)));
        ports = el ∙ R.ports;
        roomy = roomy_then v (length play) d d'' R.roomy k;
        of_laying = laying_then l₀ l l' R.of_laying kl;
        of_desk = desk_then d₀ d d'' R.of_desk k;
        of_story = es ∙ R.of_story;
        bars = b;
      }

-- ---- the start

laying_is : (v : ℕ) (ends : List ℕ) (play : List Bool) (n : ℕ) → rounds v ends play n (start v ends play (first_channel v ends play)) ≡ laying v ends play n
unfolding laying
laying_is v ends play n = refl

start_paths : (v : ℕ) (ends : List ℕ) (play : List Bool) (c : ℕ) → length (start v ends play c).paths ≡ 0
unfolding start
start_paths v ends play c = refl

pub setting_out : (v : ℕ) (ends : List ℕ) (play : List Bool) (n : ℕ) (t fs ns st : List ℕ) (count place : ℕ) → Standing v ends play (start v ends play (first_channel v ends play)) t fs ns st count place → Under v ends play n t fs ns st count place
setting_out v ends play n t fs ns st count place S =
    let z = start_paths v ends play (first_channel v ends play) in
    let e : n - length (start v ends play (first_channel v ends play)).paths ≡ n = omega arith in
    record {
      state = start v ends play (first_channel v ends play);
      stands = S;
      most = omega arith;
      goes = ap (λ (k : ℕ). rounds v ends play k (start v ends play (first_channel v ends play))) e ∙ laying_is v ends play n;
    }
