-- Lines that a loop writes: of the lands, of the ports, of the paths that a story tells.
--   Degree ends p n d       n darts of port p are counted, and those left are the ones from d on
--   Telling m n s k i       i of n paths are passed, and the story s tells the others from index k on, with darts below m
-- land_next, port_next, path_next: the next line apart. land_over, port_over, path_over_lem: no line is left. port_first, path_first: all of them are left. degree_..: start, turn and end of the loop of `degree`. first_ring, ring_as: a port's ring begins at its first dart.
-- telling_..: what the loop of `path_lines` reads.
-- Assumes nothing.
use mathlib.Core.Path.{◌≡◌, refl, sym, ap, ◌∙◌, subst}
use mathlib.Core.Logic.{⊎_elim}
use mathlib.Core.List.{List, [], ◌∷◌, ◌++◌, map}
use Prim.Native.Nat.{ℕ, suc, ◌+◌, ◌-◌, ◌<◌, ◌≤◌}
use native.Mathlib.Nat.{add-zero, eq-zero-or-pos, not-suc-le-zero}
use native.Mathlib.Numerals.{add-one}
use native.Mathlib.Omega.{arith}
use lib.ListN.{length, get_or, take, drop, length-drop, drop_of_length-le}
use lib.Seq.{get_or-drop, drop-drop, length-take-le}
use Rattle.rules.specs.Lists.{from, concat}
use Rattle.rules.specs.Terms.{leaves, enters, darts_at, ring}
use Rattle.rules.specs.Listing.{line, land_lines, path_line, port_line}
use Rattle.reach.specs.Neighbours.{first_dart, more_dart}
use Rattle.reach.proofs.Chains.{chain, chain_none, chain_first, chain_more, first_leaves, more_leaves, more_up}
use Rattle.land.specs.Walks.{land_from, lands, Below, Walkable}
use Rattle.land.proofs.Laws.{length_lands, lands_cut}
use Rattle.print.proofs.Putting.{Cut}
use Rattle.lines.specs.Story.{paths_in, Entries}
use Rattle.lines.specs.Lines.{path_lines, port_lines, flat_lines}

-- ---- the lands

pub land_next : (t fs ns : List ℕ) (n i len d : ℕ) → Walkable t fs ns n → i < n → len ≡ get_or ns i 0 → d ≡ get_or fs i 0
    → Cut (land_lines i (drop i (lands t fs ns n))) (line "land" (i ∷ land_from t len d)) (land_lines (i + 1) (drop (i + 1) (lands t fs ns n)))
unfolding land_lines
land_next t fs ns n i len d w h l f = record {
  is = ap (land_lines i) (lands_cut t fs ns n w i len d h l f) ∙ ap (λ (j : ℕ). line "land" (i ∷ land_from t len d) ++ land_lines j (drop (i + 1) (lands t fs ns n))) (sym (add-one i));
}

pub land_over : (t fs ns : List ℕ) (n i : ℕ) → Walkable t fs ns n → n ≤ i → land_lines i (drop i (lands t fs ns n)) ≡ []
unfolding land_lines
land_over t fs ns n i w h = ap (land_lines i) (drop_of_length-le (lands t fs ns n) over)
  where
    over : length (lands t fs ns n) ≤ i
    over = omega (arith, length_lands t fs ns n w.starts w.sizes)

-- ---- the darts of a port, counted

pub record Degree (ends : List ℕ) (p n d : ℕ) : Type 0 where
  pub few : n ≤ d
  pub total : length (darts_at ends p) ≡ n + length (chain ends p d)
  pub here : d < length ends → leaves ends d ≡ p

pub degree_start : (ends : List ℕ) (p d : ℕ) → d ≡ first_dart ends p → Degree ends p 0 d
degree_start ends p d e = subst (Degree ends p 0) (sym e) (record {
  few = omega arith;
  total = ap length (chain_first ends p) ∙ omega arith;
  here = first_leaves ends p;
})

pub degree_step : (ends : List ℕ) (p n d d' : ℕ) → d < length ends → d' ≡ more_dart ends d → Degree ends p n d → Degree ends p (n + 1) d'
degree_step ends p n d d' h e g = subst (Degree ends p (n + 1)) (sym e) (record {
  few = omega (arith, g.few, more_up ends d);
  total = g.total ∙ omega (arith, ap length (chain_more ends p d h (g.here h)));
  here = λ k. more_leaves ends d h k ∙ g.here h;
})

pub degree_end : (ends : List ℕ) (p n d : ℕ) → length ends ≤ d → Degree ends p n d → n ≡ length (darts_at ends p)
degree_end ends p n d h g = sym (g.total ∙ omega (arith, ap length (chain_none ends p d h)))

-- ---- the ports

-- a port that has a dart has its first dart first
first_dart_lem : (ends : List ℕ) (p d : ℕ) (l : List ℕ) → darts_at ends p ≡ d ∷ l → d ≡ first_dart ends p
first_dart_lem ends p d l e =
    ⊎_elim
    (λ z. absurd (not-suc-le-zero {n = 0} (omega (arith, ap length (sym e ∙ chain_first ends p ∙ chain_none ends p (first_dart ends p) (omega arith))))))
    (λ z.
    let h : first_dart ends p < length ends = omega arith in
    ap (λ (m : List ℕ). get_or m 0 0) (sym e ∙ chain_first ends p ∙ chain_more ends p (first_dart ends p) h (first_leaves ends p h)))
    (eq-zero-or-pos (length ends - first_dart ends p))

-- a port's ring begins at its first dart; a port without darts has no ring
pub first_ring : (t ends : List ℕ) (p : ℕ) → ring t (length (darts_at ends p)) (get_or (darts_at ends p) 0 0) ≡ ring t (length (darts_at ends p)) (first_dart ends p)
unfolding ring
first_ring t ends p = go (darts_at ends p) refl
  where
    go : (l : List ℕ) → darts_at ends p ≡ l → ring t (length l) (get_or l 0 0) ≡ ring t (length l) (first_dart ends p)
    go [] e = refl
    go (d ∷ l) e = ap (ring t (length (d ∷ l))) (first_dart_lem ends p d l e)

module _ (t ends : List ℕ) (p m d : ℕ) (e : m ≡ length (darts_at ends p)) (f : d ≡ first_dart ends p) where
  pub ring_as : ring t (length (darts_at ends p)) (get_or (darts_at ends p) 0 0) ≡ ring t m d
  ring_as = first_ring t ends p ∙ ap (λ (x : ℕ). ring t x (first_dart ends p)) (sym e) ∙ ap (ring t m) (sym f)

  pub port_next : (v : ℕ) → p < v → Cut (port_lines ends t p (v - p)) (line "port" (p ∷ ring t m d)) (port_lines ends t (p + 1) (v - (p + 1)))
  unfolding port_lines concat from port_line
  port_next v h = record {
    is =
        ap (λ (n : ℕ). port_lines ends t p n) fuel
        ∙ ap (λ (l : List ℕ). line "port" (p ∷ l) ++ port_lines ends t (suc p) (v - (p + 1))) ring_as
        ∙ ap (λ (q : ℕ). line "port" (p ∷ ring t m d) ++ port_lines ends t q (v - (p + 1))) (sym (add-one p));
  }
    where
      fuel : v - p ≡ suc (v - (p + 1))
      fuel = omega arith

pub port_over : (t ends : List ℕ) (v p : ℕ) → v ≤ p → port_lines ends t p (v - p) ≡ []
unfolding port_lines concat from
port_over t ends v p h = ap (λ (n : ℕ). port_lines ends t p n) none
  where
    none : v - p ≡ 0
    none = omega arith

-- ---- the paths

pub record Telling (m n : ℕ) (s : List ℕ) (k i : ℕ) : Type 0 where
  pub most : i ≤ n
  pub inside : k ≤ length s
  pub entries : Entries m (n - i) (drop k s)

pub telling_start : (m n : ℕ) (s : List ℕ) (k : ℕ) → k ≤ length s → Entries m n (drop k s) → Telling m n s k 0
telling_start m n s k h e = record { most = omega arith; inside = h; entries = subst (λ (j : ℕ). Entries m j (drop k s)) all e }
  where
    all : n ≡ n - 0
    all = omega arith

module _ (m n : ℕ) (s : List ℕ) (k i : ℕ) (h : i < n) (t : Telling m n s k i) where
  parted : Entries m (suc (n - (i + 1))) (drop k s)
  parted = subst (λ (j : ℕ). Entries m j (drop k s)) fuel t.entries
    where
      fuel : n - i ≡ suc (n - (i + 1))
      fuel = omega arith

  module _ (x : ℕ) (e : x ≡ get_or s (k + 2) 0) where
    number : get_or (drop k s) 2 0 ≡ x
    number = get_or-drop k s 2 0 ∙ sym e

    pub telling_end : k + 3 + x ≤ length s
    telling_end = omega (arith, parted.0, length-drop k s, number)

    pub telling_some : 0 < x
    telling_some = subst (λ (y : ℕ). 0 < y) number parted.1

    same : take (get_or (drop k s) 2 0) (drop 3 (drop k s)) ≡ take x (drop (k + 3) s)
    same = ap (λ (y : ℕ). take y (drop 3 (drop k s))) number ∙ ap (take x) (drop-drop 3 k s)

    behind : drop (3 + get_or (drop k s) 2 0) (drop k s) ≡ drop (k + 3 + x) s
    behind = ap (λ (y : ℕ). drop (3 + y) (drop k s)) number ∙ drop-drop (3 + x) k s ∙ ap (λ (y : ℕ). drop y s) sum
      where
        sum : k + (3 + x) ≡ k + 3 + x
        sum = omega arith

    pub telling_darts : Below m (take x (drop (k + 3) s))
    telling_darts = subst (Below m) same parted.2

    -- the darts, as the code lends them
    pub telling_part : take (k + 3 + x - (k + 3)) (drop (k + 3) s) ≡ take x (drop (k + 3) s)
    telling_part = ap (λ (y : ℕ). take y (drop (k + 3) s)) left
      where
        left : k + 3 + x - (k + 3) ≡ x
        left = omega arith

    pub telling_below : Below m (take (k + 3 + x - (k + 3)) (drop (k + 3) s))
    telling_below = subst (Below m) (sym telling_part) telling_darts

    pub telling_long : 0 < length (take (k + 3 + x - (k + 3)) (drop (k + 3) s))
    telling_long = subst (λ (l : List ℕ). 0 < length l) (sym telling_part) (omega (arith, telling_some, length-take-le x (drop (k + 3) s) (omega (arith, telling_end, length-drop (k + 3) s))))

    pub telling_step : Telling m n s (k + 3 + x) (i + 1)
    telling_step = record { most = omega arith; inside = telling_end; entries = subst (Entries m (n - (i + 1))) behind parted.3 }

    pub path_next : (ends ds : List ℕ) (f l : ℕ) → f ≡ get_or s k 0 → l ≡ get_or s (k + 1) 0 → ds ≡ take x (drop (k + 3) s)
        → Cut (path_lines ends (paths_in (n - i) (drop k s))) (line "path" (f ∷ l ∷ leaves ends (get_or ds 0 0) ∷ map (enters ends) ds)) (path_lines ends (paths_in (n - (i + 1)) (drop (k + 3 + x) s)))
    unfolding path_lines concat paths_in path_line
    path_next ends ds f l a b c = record {
      is =
          ap (λ (j : ℕ). path_lines ends (paths_in j (drop k s))) fuel
          ∙ ap (λ (y : ℕ). line "path" (y ∷ get_or (drop k s) 1 0 ∷ leaves ends (get_or there 0 0) ∷ map (enters ends) there) ++ rest) (get_or-drop k s 0 0 ∙ ap (λ (y : ℕ). get_or s y 0) (add-zero k) ∙ sym a)
          ∙ ap (λ (y : ℕ). line "path" (f ∷ y ∷ leaves ends (get_or there 0 0) ∷ map (enters ends) there) ++ rest) (get_or-drop k s 1 0 ∙ sym b)
          ∙ ap (λ (w : List ℕ). line "path" (f ∷ l ∷ leaves ends (get_or w 0 0) ∷ map (enters ends) w) ++ rest) (same ∙ sym c)
          ∙ ap (λ (w : List ℕ). line "path" (f ∷ l ∷ leaves ends (get_or ds 0 0) ∷ map (enters ends) ds) ++ path_lines ends (paths_in (n - (i + 1)) w)) behind;
    }
      where
        there : List ℕ
        there = take (get_or (drop k s) 2 0) (drop 3 (drop k s))

        rest : List ℕ
        rest = path_lines ends (paths_in (n - (i + 1)) (drop (3 + get_or (drop k s) 2 0) (drop k s)))

        fuel : n - i ≡ suc (n - (i + 1))
        fuel = omega arith

pub path_over_lem : (ends : List ℕ) (n : ℕ) (w : List ℕ) (i : ℕ) → n ≤ i → path_lines ends (paths_in (n - i) w) ≡ []
unfolding path_lines concat paths_in
path_over_lem ends n w i h = ap (λ (j : ℕ). path_lines ends (paths_in j w)) none
  where
    none : n - i ≡ 0
    none = omega arith

pub path_first : (ends : List ℕ) (n : ℕ) (w : List ℕ) → path_lines ends (paths_in n w) ≡ path_lines ends (paths_in (n - 0) w)
path_first ends n w = ap (λ (j : ℕ). path_lines ends (paths_in j w)) (omega arith)

pub port_first : (t ends : List ℕ) (v : ℕ) → port_lines ends t 0 v ≡ port_lines ends t 0 (v - 0)
port_first t ends v = ap (port_lines ends t 0) (omega arith)

-- ---- the lands and the ports

pub flat_lands : (ends t : List ℕ) (ls : List (List ℕ)) (v : ℕ) → Cut (flat_lines ends t ls v) (land_lines 0 ls) (port_lines ends t 0 v)
unfolding flat_lines
flat_lands ends t ls v = record { is = refl }
