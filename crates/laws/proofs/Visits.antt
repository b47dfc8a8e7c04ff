-- Whatever the number of paths, no land visits a port twice.
--   Once ps l       the darts of l leave no port twice
-- trail_ports: the ports that a trail's darts leave, against those that they enter. once_listed: from whichever dart a land is listed. once_cycled, once_parted: it holds of the first cycle's lands, and after a path of those that it makes and of the others.
-- once_laying, once_land: so it is after at most n paths.
-- Assumes nothing.
use mathlib.Core.Path.{◌≡◌, sym, ap, subst, ◌∙◌}
use mathlib.Core.Logic.{⊎_elim}
use mathlib.Core.Bool.{Bool}
use mathlib.Core.List.{List, [], ◌∷◌, ◌++◌, map}
use Prim.Native.Nat.{ℕ, ◌≤◌, ◌<◌, ◌+◌}
use native.Mathlib.Nat.{eq-zero-or-pos}
use native.Mathlib.Omega.{arith}
use lib.Dec.{T}
use lib.ListN.{length, get_or}
use Rattle.rules.specs.Lists.{at}
use Rattle.rules.specs.Terms.{leaves, enters, reverse, listed}
use Rattle.rules.specs.Laying.{State, back, laying}
use Rattle.laws.proofs.Counts.{is, is_self, count, count_append, zero_of, map_from, distinct_le}
use Rattle.laws.proofs.Lists.{All}
use Rattle.laws.proofs.Runs.{listed_keeps}
use Rattle.laws.proofs.Trails.{leaves_reverse, Trail, inner, trail_leaves, trail_enters}
use Rattle.laws.proofs.Sound.{all_at, Sound}
use Rattle.laws.proofs.Reaches.{Wide}
use Rattle.laws.proofs.Rounds.{Layable}
use Rattle.laws.proofs.Steps.{Cycled, Parted, parted_old, all_parted, steps_laying}

abbrev pub Once : List ℕ → List ℕ → Type 0
Once ps l = (p : ℕ) → count p (map (leaves ps) l) ≤ 1

-- ---- ports that are left, and ports that are entered

pub count_map_append : (f : ℕ → ℕ) (p : ℕ) (l m : List ℕ) → count p (map f (l ++ m)) ≡ count p (map f l) + count p (map f m)
unfolding count
count_map_append f p [] m = omega arith
count_map_append f p (d ∷ l) m = omega (arith, count_map_append f p l m)

pub trail_ports : (ps : List ℕ) (x : ℕ) (q : List ℕ) (y : ℕ) → Trail ps x q y → (p : ℕ) → count p (map (leaves ps) q) + is p y ≡ is p x + count p (map (enters ps) q)
unfolding count
trail_ports ps x [] y h p = omega (arith, ap (is p) h)
trail_ports ps x (d ∷ q) y h p = omega (arith, trail_ports ps (enters ps d) q y h.1 p, ap (is p) h.0)

pub back_ports : (ps : List ℕ) (p : ℕ) (q : List ℕ) → count p (map (leaves ps) (back q)) ≡ count p (map (enters ps) q)
unfolding back count
back_ports ps p [] = omega arith
back_ports ps p (d ∷ q) = omega (arith, count_map_append (leaves ps) p (back q) (reverse d ∷ []), back_ports ps p q, ap (is p) (leaves_reverse ps d))

pub once_turn : (ps l m : List ℕ) → Once ps (l ++ m) → Once ps (m ++ l)
once_turn ps l m h p = omega (arith, h p, count_map_append (leaves ps) p l m, count_map_append (leaves ps) p m l)

pub once_listed : (ps l : List ℕ) → Once ps l → Once ps (listed l)
once_listed ps l h = listed_keeps (Once ps) (once_turn ps) l h

-- ---- the first cycle

pub once_cycled : (ps : List ℕ) (s : State) → Cycled ps s → All (Once ps) s.lands
once_cycled ps s C =
    subst (All (Once ps)) (sym C.lands) (
      once_listed ps (C.d ∷ C.q) (λ p. omega (arith, trail_ports ps C.port (C.d ∷ C.q) C.port C.way p, distinct_le (map (enters ps) (C.d ∷ C.q)) C.once p)),
      (once_listed ps (back (C.d ∷ C.q)) (λ p. omega (arith, back_ports ps p (C.d ∷ C.q), distinct_le (map (enters ps) (C.d ∷ C.q)) C.once p)), tt),
    )

-- ---- one path

module _ (ps : List ℕ) (s z : State) (K : Sound s.turns s.lands) (D : Parted ps s z) where
  -- the path comes to no port twice
  pub parted_once : (p : ℕ) → is p D.x + count p (map (enters ps) (D.d ∷ D.q)) ≤ 1
  unfolding count
  parted_once p = distinct_le (D.x ∷ map (enters ps) (D.d ∷ D.q)) D.once p

  pub parted_ports : (p : ℕ) → count p (map (leaves ps) (D.d ∷ D.q)) + is p D.y ≡ is p D.x + count p (map (enters ps) (D.d ∷ D.q))
  parted_ports = trail_ports ps D.x (D.d ∷ D.q) D.y D.way

  -- no dart of A or B leaves a port between the path's ends
  pub between_none : (l : List ℕ) → ((w : ℕ) → 1 ≤ count w l → 1 ≤ count w ((D.a ∷ D.m) ++ (D.b ∷ D.n))) → (p : ℕ) → 1 ≤ count p (inner ps (D.d ∷ D.q)) → count p (map (leaves ps) l) ≡ 0
  between_none l h p i =
      zero_of (count p (map (leaves ps) l)) (λ c.
      let w = map_from (leaves ps) l p c in
      omega (arith, i, D.between w.0 (parted_old ps s z K D w.0 (h w.0 w.1)), ap (λ (v : ℕ). count v (inner ps (D.d ∷ D.q))) w.2))

  module _ (O : Once ps ((D.a ∷ D.m) ++ (D.b ∷ D.n))) where
    at_x : count D.x (map (leaves ps) (D.b ∷ D.n)) ≡ 0
    unfolding count
    at_x = omega (arith, O D.x, count_map_append (leaves ps) D.x (D.a ∷ D.m) (D.b ∷ D.n), is_self D.x, ap (is D.x) D.from_x)

    at_y : count D.y (map (leaves ps) (D.a ∷ D.m)) ≡ 0
    unfolding count
    at_y = omega (arith, O D.y, count_map_append (leaves ps) D.y (D.a ∷ D.m) (D.b ∷ D.n), is_self D.y, ap (is D.y) D.from_y)

    -- the path, then B
    once_kept : Once ps ((D.d ∷ D.q) ++ (D.b ∷ D.n))
    once_kept p =
        ⊎_elim
        (λ e. omega (arith, O p, count_map_append (leaves ps) p (D.a ∷ D.m) (D.b ∷ D.n), count_map_append (leaves ps) p (D.d ∷ D.q) (D.b ∷ D.n)))
        (λ c.
        let w = map_from (leaves ps) (D.d ∷ D.q) p c in
        let none : count p (map (leaves ps) (D.b ∷ D.n)) ≡ 0 =
        ⊎_elim (λ e. ap (λ (v : ℕ). count v (map (leaves ps) (D.b ∷ D.n))) (sym w.2 ∙ e) ∙ at_x)
        (λ i. between_none (D.b ∷ D.n) (λ v h. omega (arith, count_append v (D.a ∷ D.m) (D.b ∷ D.n))) p (subst (λ (v : ℕ). 1 ≤ count v (inner ps (D.d ∷ D.q))) w.2 i))
        (trail_leaves ps D.x D.d D.q D.y w.0 D.way w.1) in
        omega (arith, none, parted_ports p, parted_once p, count_map_append (leaves ps) p (D.d ∷ D.q) (D.b ∷ D.n)))
        (eq-zero-or-pos (count p (map (leaves ps) (D.d ∷ D.q))))

    -- the path reversed, then A
    once_made : Once ps (back (D.d ∷ D.q) ++ (D.a ∷ D.m))
    once_made p =
        ⊎_elim
        (λ e. omega (arith, O p, back_ports ps p (D.d ∷ D.q), count_map_append (leaves ps) p (D.a ∷ D.m) (D.b ∷ D.n), count_map_append (leaves ps) p (back (D.d ∷ D.q)) (D.a ∷ D.m)))
        (λ c.
        let w = map_from (enters ps) (D.d ∷ D.q) p c in
        let none : count p (map (leaves ps) (D.a ∷ D.m)) ≡ 0 =
        ⊎_elim (λ e. ap (λ (v : ℕ). count v (map (leaves ps) (D.a ∷ D.m))) (sym w.2 ∙ e) ∙ at_y)
        (λ i. between_none (D.a ∷ D.m) (λ v h. omega (arith, count_append v (D.a ∷ D.m) (D.b ∷ D.n))) p (subst (λ (v : ℕ). 1 ≤ count v (inner ps (D.d ∷ D.q))) w.2 i))
        (trail_enters ps D.x D.d D.q D.y w.0 D.way w.1) in
        omega (arith, none, parted_once p, back_ports ps p (D.d ∷ D.q), count_map_append (leaves ps) p (back (D.d ∷ D.q)) (D.a ∷ D.m)))
        (eq-zero-or-pos (count p (map (enters ps) (D.d ∷ D.q))))

  pub once_parted : All (Once ps) s.lands → All (Once ps) z.lands
  once_parted C =
      let O : Once ps ((D.a ∷ D.m) ++ (D.b ∷ D.n)) = subst (Once ps) (sym D.turned.1.2)
      (once_turn ps D.turned.0 D.turned.1.0 (subst (Once ps) D.turned.1.1 (all_at (Once ps) s.lands D.land D.below C))) in
      all_parted ps s z K D (Once ps) (once_listed ps _ (once_kept O)) (once_listed ps _ (once_made O)) C

-- ---- any number of paths

module _ (np : ℕ) (ps : List ℕ) (on : List Bool) (G : Layable np ps on) (many : Wide ps on) (c : ℕ) (o : T (at on c)) where
  pub once_laying : (n : ℕ) → All (Once ps) (laying np ps on n).state.lands
  once_laying = steps_laying np ps on G many (λ s. All (Once ps) s.lands) (λ s K C. once_cycled ps s C) (λ s z K L D C. once_parted ps s z K.sound D C) c o

  -- No land visits a port twice.
  pub once_land : (n i : ℕ) → i < length (laying np ps on n).state.lands → (p : ℕ) → count p (map (leaves ps) (get_or (laying np ps on n).state.lands i [])) ≤ 1
  once_land n i h = all_at (Once ps) (laying np ps on n).state.lands i h (once_laying n)
