-- What finding the path of a fragment (specs, "Rooms") asks of the functions below, and what it gives.
--   frag, cs             the fragment that channel k names, and its contacts
-- path_reaches, path_is: there is a path, and the one that they find is the fragment's.
-- round_ports, round_reaches, round_is: so it is with the way back of the first cycle.
-- Assumes nothing.
use mathlib.Core.Path.{◌≡◌, refl, sym, ap, ◌∙◌, subst}
use mathlib.Core.Bool.{Bool, true, false, not, ◌&&◌, ◌||◌}
use mathlib.Core.List.{List, ◌∷◌, map}
use Prim.Native.Nat.{ℕ, ◌*◌, ◌/◌, ◌<◌}
use native.Mathlib.Omega.{arith}
use lib.Dec.{T, eqb}
use lib.ListN.{length, get_or, set, replicate, length-replicate}
use Rattle.rules.specs.Lists.{from, at}
use Rattle.rules.specs.Terms.{leaves, enters, reverse}
use Rattle.rules.specs.Ways.{only, path, in_play}
use Rattle.rules.specs.Laying.{Fragment, within, fragment_at, cycle}
use Rattle.laws.proofs.Sets.{at_lt}
use Rattle.laws.proofs.Trails.{leaves_reverse}
use Rattle.laws.proofs.Reaches.{whole_of, dart_reverse, reached_iff}
use Rattle.laws.proofs.FirstCycle.{start_channel, start_dart, round_way}
use Rattle.way.specs.Marks.{reached_by, path_over}
use Rattle.step.specs.Rooms.{contacts_at, path_at, Passable, Plan}
use Rattle.step.proofs.Same.{iter_same, path_same, own_is, but_is, free_is}

module _ (v : ℕ) (ends : List ℕ) (play laid : List Bool) (k : ℕ) (L : Plan v ends play) (A : Passable v ends play laid k) where
  abbrev frag : Fragment
  frag = fragment_at v ends play laid k

  abbrev cs : List ℕ
  cs = contacts_at v ends play laid k

  module _ (inside' own' : List Bool) (i : inside' ≡ (fragment_at v ends play laid k).ports) (o : own' ≡ map (λ j. within v ends play (fragment_at v ends play laid k) (2 * j)) (from 0 (length play)))
      (size : length inside' ≡ v) (x y : ℕ) (ex : x ≡ get_or (contacts_at v ends play laid k) 0 0) (ey : y ≡ get_or (contacts_at v ends play laid k) 1 0) where
    uses : (d : ℕ) → d < length ends → in_play own' d ≡ within v ends play frag d
    uses = own_is v ends play frag own' L.layable.size2 o

    pub path_is : path_over ends own' inside' x y ≡ path_at v ends play laid k
    path_is =
        ap (λ (m : ℕ). path m ends (in_play own') (at inside') x y) size
        ∙ path_same ends (in_play own') (within v ends play frag) uses (at inside') (at frag.ports) (λ d h. ap (λ (s : List Bool). at s (leaves ends d)) i) v x y
        ∙ ap (λ (z : ℕ). path v ends (within v ends play frag) (at frag.ports) z y) ex
        ∙ ap (path v ends (within v ends play frag) (at frag.ports) (get_or cs 0 0)) ey

    pub path_reaches : T (at (reached_by (length inside') ends own' inside' x y (length inside')) x)
    path_reaches =
        rw (size, ex, ey)
        (subst (λ (s : List Bool). T (at s (get_or cs 0 0)))
        (sym (iter_same ends (in_play own') (within v ends play frag) uses (λ p. at inside' p || eqb p (get_or cs 0 0)) (λ p. at frag.ports p || eqb p (get_or cs 0 0))
        (λ d h. ap (λ (s : List Bool). at s (leaves ends d) || eqb (leaves ends d) (get_or cs 0 0)) i) v (only v (get_or cs 1 0)))) A.reached)

-- ---- the way back of the first cycle

pub end_first : (ends : List ℕ) (c : ℕ) → get_or ends (2 * c) 0 ≡ leaves ends (2 * c)
unfolding leaves
end_first ends c = refl

module _ (v : ℕ) (ends : List ℕ) (play : List Bool) (L : Plan v ends play) (c : ℕ) (o : T (at play c)) where
  abbrev pub but : List Bool
  but = set play c false

  abbrev pub free : List Bool
  free = replicate v true

  abbrev ok_c : ℕ → Bool
  ok_c d = in_play play d && not (eqb (d / 2) c)

  -- the path by these flags is the one of the cycle
  pub round_is : (x y : ℕ) → x ≡ enters ends (2 * c) → y ≡ leaves ends (2 * c) → (own inside : List Bool) → own ≡ set play c false → inside ≡ replicate v true
      → 2 * c ∷ path_over ends own inside x y ≡ cycle v ends play c
  unfolding cycle
  round_is x y ex ey own inside eo ei =
      rw (eo, ei, ex, ey)
      (ap (λ (q : List ℕ). 2 * c ∷ q)
      (ap (λ (m : ℕ). path m ends (in_play but) (at free) (enters ends (2 * c)) (leaves ends (2 * c))) (length-replicate v true)
      ∙ path_same ends (in_play but) ok_c (λ d h. but_is play c (at_lt play c o) d) (at free) (λ p. true) (λ d h. free_is v (leaves ends d) (L.layable.inn d h)) v (enters ends (2 * c)) (leaves ends (2 * c))))

  pub second_end : enters ends (2 * c) < v
  second_end = subst (λ (p : ℕ). p < v) (leaves_reverse ends (2 * c)) (L.layable.inn (reverse (2 * c)) (dart_reverse ends play L.layable.size2 (2 * c) (start_channel v ends play L.layable L.wide c o)))

  pub first_end : leaves ends (2 * c) < v
  first_end = L.layable.inn (2 * c) (start_channel v ends play L.layable L.wide c o)

  round_reach : T (at (reached_by v ends but free (enters ends (2 * c)) (leaves ends (2 * c)) v) (enters ends (2 * c)))
  round_reach =
      let G = L.layable in
      let b = enters ends (2 * c) in
      let a = leaves ends (2 * c) in
      subst (λ (s : List Bool). T (at s b))
      (sym (iter_same ends (in_play but) ok_c (λ d h. but_is play c (at_lt play c o) d) (λ p. at free p || eqb p b) (λ p. true || eqb p b)
      (λ d h. ap (λ (f : Bool). f || eqb (leaves ends d) b) (free_is v (leaves ends d) (G.inn d h))) v (only v a)))
      ((reached_iff v ends ok_c (λ p. true || eqb p b) (whole_of ends ok_c (start_dart v ends play G L.wide c o)) (λ d h. G.inn d (start_dart v ends play G L.wide c o d h)) a first_end b).1
      (round_way v ends play G L.wide c o (λ p. true || eqb p b) (λ p. tt)))

  pub round_ports : (x y : ℕ) → x ≡ enters ends (2 * c) → y ≡ leaves ends (2 * c) → (inside : List Bool) → inside ≡ replicate v true → (x < length inside) × (y < length inside)
  round_ports x y ex ey inside ei = let size : length inside ≡ v = ap length ei ∙ length-replicate v true in (omega (arith, ex, second_end, size), omega (arith, ey, first_end, size))

  pub round_reaches : (x y : ℕ) → x ≡ enters ends (2 * c) → y ≡ leaves ends (2 * c) → (own inside : List Bool) → own ≡ set play c false → inside ≡ replicate v true
      → T (at (reached_by (length inside) ends own inside x y (length inside)) x)
  round_reaches x y ex ey own inside eo ei = let size : length inside ≡ v = ap length ei ∙ length-replicate v true in rw (size, eo, ei, ex, ey) round_reach
