-- Laws for those who keep the state s of a laying (rules, "Laying") as turns and as the first darts and lengths of its lands, and call this crate.
--   Holds s t fs ns n       turns t, first darts fs and lengths ns hold the state s, which has n lands
--   path_of np ps on c       the path that is laid for the choice c
-- holds_lands, holds_long, holds_room, holds_walkable: the lands held are the lands of the state, and they can be walked. lay_divisible: what `divide` asks holds of a choice with an admissible land. holds_lay: what it leaves holds the state after the path.
-- start_cyclic: what `begin` asks holds of the first cycle of a plate that can be laid. holds_start: what it leaves holds the state after the first cycle.
-- Assumes nothing.
use mathlib.Core.Path.{◌≡◌, sym, ap, ◌∙◌, subst}
use mathlib.Core.Bool.{Bool, false}
use mathlib.Core.List.{List, [], map}
use Prim.Native.Nat.{ℕ, ◌+◌, ◌<◌, ◌≤◌}
use native.Mathlib.Omega.{arith}
use lib.Dec.{T}
use lib.ListN.{length, get_or, take, replicate, length-append, length-map, length-set, length-take}
use Rattle.rules.specs.Lists.{at}
use Rattle.rules.specs.Terms.{missing, laid, visits}
use Rattle.rules.specs.Ways.{path}
use Rattle.rules.specs.Laying.{State, Choice, first, back, around, split_turns, split_lands, within, choice_of, cycle, start, lay}
use Rattle.laws.proofs.Lists.{all_T}
use Rattle.laws.proofs.Sound.{Sound}
use Rattle.laws.proofs.Choices.{Open, Sensible}
use Rattle.laws.proofs.Reaches.{Wide}
use Rattle.laws.proofs.Rounds.{Layable, Kept, lay_contacts, lay_fresh, lay_once, lay_fits, lay_head}
use Rattle.laws.proofs.FirstCycle.{start_darts, start_once}
use Rattle.land.specs.Walks.{lands, Walkable}
use Rattle.land.proofs.Laws.{lands_are, lands_of_lem}
use Rattle.split.specs.Halves.{stretch_a, stretch_b, Divisible, new_lands, Divided, Cyclic, Begun}

pub record Holds (s : State) (t fs ns : List ℕ) (n : ℕ) : Type 0 where
  pub turns : t ≡ s.turns
  pub count : n ≡ length s.lands
  pub firsts : take n fs ≡ map first s.lands
  pub lens : take n ns ≡ map length s.lands

-- ---- the lands that are held

-- as many are there as are taken
taken : (n : ℕ) (fs ms : List ℕ) → take n fs ≡ ms → length ms ≡ n → n ≤ length fs
taken n fs ms e h = omega (arith, length-take n fs, ap length e)

module _ (ps : List ℕ) (on : List Bool) (s : State) (K : Kept ps on s) (t fs ns : List ℕ) (n : ℕ) (H : Holds s t fs ns n) where
  held : Sound t s.lands
  held = subst (λ (u : List ℕ). Sound u s.lands) (sym H.turns) K.sound

  pub holds_lands : lands t fs ns n ≡ s.lands
  holds_lands = lands_are t fs ns n s.lands H.firsts H.lens held

  pub holds_long : length t ≡ length ps
  holds_long = ap length H.turns ∙ K.long

  pub holds_room : (n ≤ length fs) × (n ≤ length ns)
  holds_room = (
    taken n fs (map first s.lands) H.firsts (length-map s.lands first ∙ sym H.count),
    taken n ns (map length s.lands) H.lens (length-map s.lands length ∙ sym H.count),
  )

  pub holds_walkable : (np : ℕ) → Layable np ps on → Walkable t fs ns n
  holds_walkable np G =
      lands_of_lem t fs ns n s.lands H.firsts H.lens held (omega (arith, holds_long, G.size2)) (omega (arith, holds_long, G.few)) holds_room.0 holds_room.1

-- ---- one path

abbrev pub path_of : ℕ → List ℕ → List Bool → Choice → List ℕ
path_of np ps on c = path np ps (within np ps on c.fragment) (at c.fragment.ports) (get_or c.contacts 0 0) (get_or c.contacts 1 0)

-- a land more
length_after : (i : ℕ) (a b q : List ℕ) (ls : List (List ℕ)) → length (split_lands i a b q ls) ≡ length ls + 1
unfolding split_lands
length_after i a b q ls = simp (length-append, length-set) (omega arith)

module _ (np : ℕ) (ps : List ℕ) (on : List Bool) (G : Layable np ps on) (s : State) (K : Kept ps on s) (t fs ns : List ℕ) (n : ℕ) (H : Holds s t fs ns n) where
  -- a land of the state visits a port: so does the land that is held
  visited : (i p : ℕ) → T (visits ps (get_or s.lands i []) p) → T (visits ps (get_or (lands t fs ns n) i []) p)
  visited i p v = subst (λ (ls : List (List ℕ)). T (visits ps (get_or ls i []) p)) (sym (holds_lands ps on s K t fs ns n H)) v

  unlaid : (z : ℕ) → (laid s.turns z ≡ false) × (z < length s.turns) → (laid t z ≡ false) × (z < length t)
  unlaid z f = subst (λ (u : List ℕ). (laid u z ≡ false) × (z < length u)) (sym H.turns) f

  -- what `divide` asks, for a choice with an admissible land
  pub lay_divisible : n < length fs → n < length ns → (c : Choice) → Sensible np ps on s c → Open c
      → Divisible ps t fs ns n (get_or c.fits 0 0) (get_or c.contacts 0 0) (get_or c.contacts 1 0) (path_of np ps on c)
  unfolding choice_of
  lay_divisible a b c h p =
      subst (λ (e : Choice). Open e → Divisible ps t fs ns n (get_or e.fits 0 0) (get_or e.contacts 0 0) (get_or e.contacts 1 0) (path_of np ps on e)) (sym h.1)
      (λ fit.
      let f = lay_fits np ps on G s K h.0 h.2 h.3 fit in
      let cs = lay_contacts np ps on G s K h.0 h.2 h.3 fit in
      let long = holds_long ps on s K t fs ns n H in
      record {
        sound = subst (Sound t) (sym (holds_lands ps on s K t fs ns n H)) (held ps on s K t fs ns n H);
        even = omega (arith, long, G.size2);
        few = omega (arith, long, G.few);
        ports = sym long;
        land = omega (arith, f.0, H.count);
        starts = a;
        sizes = b;
        apart = cs.1;
        visits_x = visited _ _ (all_T (visits ps _) _ _ f.1 cs.2);
        visits_y = visited _ _ (all_T (visits ps _) _ _ f.1 cs.3);
        some = omega (arith, ap length (lay_head np ps on G s K h.0 h.2 h.3 fit).1.1);
        fresh = λ z k. unlaid z (lay_fresh np ps on G s K h.0 h.2 h.3 fit z k);
        once = lay_once np ps on G s K h.0 h.2 h.3 fit;
      }) p

-- what it leaves is the state after the path
pub holds_lay : (np : ℕ) (ps : List ℕ) (on : List Bool) (s : State) → Kept ps on s → (t fs ns : List ℕ) (n : ℕ) → Holds s t fs ns n → (c : Choice) (t' fs' ns' : List ℕ)
    → Divided ps t fs ns n (get_or c.fits 0 0) (get_or c.contacts 0 0) (get_or c.contacts 1 0) (path_of np ps on c) t' fs' ns' → Holds (lay np ps on s c) t' fs' ns' (n + 1)
unfolding lay
holds_lay np ps on s K t fs ns n H c t' fs' ns' D =
    let i = get_or c.fits 0 0 in
    let x = get_or c.contacts 0 0 in
    let y = get_or c.contacts 1 0 in
    let q = path_of np ps on c in
    let l = get_or s.lands i [] in
    let same = holds_lands ps on s K t fs ns n H in
    let after : new_lands ps t fs ns n i x y q ≡ split_lands i (stretch_a ps x y l) (stretch_b ps x y l) q s.lands
    = ap (λ (ls : List (List ℕ)). split_lands i (stretch_a ps x y (get_or ls i [])) (stretch_b ps x y (get_or ls i [])) q ls) same in
    record {
      turns = D.turns ∙ ap (λ (ls : List (List ℕ)). split_turns (stretch_a ps x y (get_or ls i [])) (stretch_b ps x y (get_or ls i [])) q t) same ∙ ap (split_turns (stretch_a ps x y l) (stretch_b ps x y l) q) H.turns;
      count = sym (length_after i (stretch_a ps x y l) (stretch_b ps x y l) q s.lands ∙ ap (λ (k : ℕ). k + 1) (sym H.count));
      firsts = D.renewed.firsts ∙ ap (map first) after;
      lens = D.renewed.lens ∙ ap (map length) after;
    }

-- ---- the first cycle

-- what `begin` asks, for the first cycle with any channel in play
pub start_cyclic : (np : ℕ) (ps : List ℕ) (on : List Bool) → Layable np ps on → Wide ps on → (c : ℕ) → T (at on c)
    → (t fs ns : List ℕ) → length t ≡ length ps → 2 ≤ length fs → 2 ≤ length ns → Cyclic t fs ns (cycle np ps on c)
unfolding cycle
start_cyclic np ps on G many c o t fs ns e a b = record {
  even = omega (arith, G.size2);
  few = omega (arith, G.few);
  starts = a;
  sizes = b;
  some = omega arith;
  darts = λ z h. omega (arith, start_darts np ps on G many c o z h);
  once = start_once np ps on G many c o;
}

-- what it leaves is the state after the first cycle
pub holds_start : (np : ℕ) (ps : List ℕ) (on : List Bool) (c : ℕ) (t fs ns t' fs' ns' : List ℕ) → length t ≡ length ps
    → Begun t fs ns (cycle np ps on c) t' fs' ns' → Holds (start np ps on c) t' fs' ns' 2
unfolding start
holds_start np ps on c t fs ns t' fs' ns' e B = record {
  turns = B.turns ∙ ap (λ (k : ℕ). around (cycle np ps on c) (around (back (cycle np ps on c)) (replicate k missing))) e;
  count = omega arith;
  firsts = B.renewed.firsts;
  lens = B.renewed.lens;
}
