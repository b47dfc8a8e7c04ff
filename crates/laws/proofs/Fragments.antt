-- Fragments (document 01, "Laying"): a fragment's darts and ports are unlaid, a way leads inside it from each contact to each other, and where no port cuts it has two contacts at least.
--   unlaid lp p                 port p is not one of the laid ports lp
--   inside np ps on lp k        the ports of the fragment that is named k
--   of_fragment np ps on lp k d  dart d is one of that fragment's
--   beside np ps on lp k x p    port p is one of that fragment's, or x
--   Single np ps on lp k        the fragment is channel k alone, between two laid ports
--   Rooted np ps on lp k        it has a port: an unlaid end of channel k, its root
--   ports_at, contacts_at         inside, and the contacts, with np ps on lp as they stand
--   Alone .. k c                c is its only contact
-- laid_ports_..: what the laid ports are. within_..: the darts of a fragment. within_unlaid, inside_unlaid: nothing of a fragment is laid. contacts_from, contacts_adds: what a contact is. contacts_linked: a way from contact to contact. contacts_two: the first two contacts.
-- Assumes nothing.
use mathlib.Core.Path.{◌≡◌, refl, ◌∙◌, subst, sym, ap}
use mathlib.Core.Logic.{⊎_elim, ◌⊎◌, inl, inr, ◌≢◌}
use mathlib.Core.Bool.{Bool, cond, true, ◌||◌, not, false, ◌&&◌}
use mathlib.Core.List.{List, [], ◌∷◌}
use Prim.Native.Nat.{ℕ, ◌≤◌, ◌<◌, ◌/◌, ◌*◌}
use native.Mathlib.Nat.{not-suc-le-zero}
use native.Mathlib.Omega.{arith}
use lib.Dec.{T, eqb, eqb→eq, eqb_refl, T_not, not_T}
use lib.ListN.{length, set, length-set, length-replicate, replicate, get_or}
use Rattle.rules.specs.Lists.{from, any, at}
use Rattle.rules.specs.Terms.{leaves, reverse, enters, laid}
use Rattle.rules.specs.Ways.{only, iter, larger, in_play}
use Rattle.rules.specs.Laying.{Fragment, laid_ports, within, seed, fragment_at, contacts_of}
use Rattle.laws.proofs.Tests.{cond_cases, T_is, T_isnt, neqb_ne, ne_neqb, and_T, T_and, or_T, T_or₁, T_or₂}
use Rattle.laws.proofs.Counts.{is_cases, is_apart, count}
use Rattle.laws.proofs.Lists.{any_T, T_any, keep_le, keep_T, T_keep, count_from, from_once, two}
use Rattle.laws.proofs.Sets.{at_lt, at_set_same, at_set_keeps, at_set_from, at_none, only_is, only_self, length_only, size, size_only, iter_more, iter_length, iter_closed}
use Rattle.laws.proofs.Runs.{reverse_channel, channel_darts, channel_of}
use Rattle.laws.proofs.Trails.{leaves_reverse, enters_reverse, channel_opposite}
use Rattle.laws.proofs.Reaches.{Whole, whole_of, play_dart, dart_reverse, play_reverse, larger_keeps, length_larger, Way, way_start, Linked, linked_join, linked_back, reached_from, way_closed, but, Touched, Firm}

-- ---- the laid ports

module _ (ps t : List ℕ) where
  pub length_laid_ports : (ds : List ℕ) (r : List Bool) → length (laid_ports ps t ds r) ≡ length r
  unfolding laid_ports
  length_laid_ports [] r = refl
  length_laid_ports (d ∷ ds) r =
      length_laid_ports ds (cond (laid t d) (set r (leaves ps d) true) r)
      ∙ cond_cases (λ (m : List Bool). length m ≡ length r) (laid t d) (λ k. length-set r (leaves ps d) true) (λ k. refl)

  pub laid_ports_keeps : (ds : List ℕ) (r : List Bool) (p : ℕ) → T (at r p) → T (at (laid_ports ps t ds r) p)
  unfolding laid_ports
  laid_ports_keeps [] r p h = h
  laid_ports_keeps (d ∷ ds) r p h =
      laid_ports_keeps ds (cond (laid t d) (set r (leaves ps d) true) r) p (cond_cases (λ (m : List Bool). T (at m p)) (laid t d) (λ k. at_set_keeps r (leaves ps d) p h) (λ k. h))

  pub laid_ports_adds : (ds : List ℕ) (r : List Bool) (z : ℕ) → 1 ≤ count z ds → T (laid t z) → leaves ps z < length r → T (at (laid_ports ps t ds r) (leaves ps z))
  unfolding laid_ports count
  laid_ports_adds [] r z h l b = absurd (not-suc-le-zero h)
  laid_ports_adds (d ∷ ds) r z h l b =
      ⊎_elim
      (λ e. laid_ports_keeps ds (cond (laid t d) (set r (leaves ps d) true) r) (leaves ps z)
      (rw (T_is (laid t d) (subst (λ (c : ℕ). T (laid t c)) e l)) (subst (λ (c : ℕ). T (at (set r (leaves ps c) true) (leaves ps z))) e (at_set_same r (leaves ps z) b))))
      (λ n. laid_ports_adds ds (cond (laid t d) (set r (leaves ps d) true) r) z (omega arith) l
      (cond_cases (λ (m : List Bool). leaves ps z < length m) (laid t d) (λ k. rw length-set b) (λ k. b)))
      (is_cases z d)

  pub laid_ports_from : (ds : List ℕ) (r : List Bool) (p : ℕ) → T (at (laid_ports ps t ds r) p) → T (at r p) ⊎ ((z : ℕ) × T (laid t z) × (leaves ps z ≡ p))
  unfolding laid_ports
  laid_ports_from [] r p h = inl h
  laid_ports_from (d ∷ ds) r p h =
      ⊎_elim
      (cond_cases (λ (m : List Bool). T (at m p) → T (at r p) ⊎ ((z : ℕ) × T (laid t z) × (leaves ps z ≡ p))) (laid t d)
      (λ l k. ⊎_elim (λ e. inr (d, l, sym e)) inl (at_set_from r (leaves ps d) p k)) (λ l k. inl k))
      inr (laid_ports_from ds (cond (laid t d) (set r (leaves ps d) true) r) p h)

-- ---- the darts of a fragment

module _ (np : ℕ) (ps : List ℕ) (on : List Bool) (f : Fragment) (d : ℕ) where
  pub within_play : T (within np ps on f d) → T (in_play on d)
  unfolding within
  within_play h = (and_T (in_play on d) (eqb (d / 2) f.name || at f.ports (leaves ps d) || at f.ports (enters ps d)) h).0

  pub within_cases : T (within np ps on f d) → (d / 2 ≡ f.name) ⊎ (T (at f.ports (leaves ps d)) ⊎ T (at f.ports (enters ps d)))
  unfolding within
  within_cases h =
      ⊎_elim
      (λ b. ⊎_elim (λ e. inl (eqb→eq (d / 2) f.name e)) (λ e. inr (inl e)) (or_T (eqb (d / 2) f.name) (at f.ports (leaves ps d)) b))
      (λ b. inr (inr b))
      (or_T (eqb (d / 2) f.name || at f.ports (leaves ps d)) (at f.ports (enters ps d))
      (and_T (in_play on d) (eqb (d / 2) f.name || at f.ports (leaves ps d) || at f.ports (enters ps d)) h).1)

  pub within_own : T (in_play on d) → d / 2 ≡ f.name → T (within np ps on f d)
  unfolding within
  within_own o e =
      T_and (in_play on d) (eqb (d / 2) f.name || at f.ports (leaves ps d) || at f.ports (enters ps d)) o
      (T_or₁ (eqb (d / 2) f.name || at f.ports (leaves ps d)) (at f.ports (enters ps d))
      (T_or₁ (eqb (d / 2) f.name) (at f.ports (leaves ps d)) (rw e (eqb_refl f.name))))

  pub within_leaves : T (in_play on d) → T (at f.ports (leaves ps d)) → T (within np ps on f d)
  unfolding within
  within_leaves o h =
      T_and (in_play on d) (eqb (d / 2) f.name || at f.ports (leaves ps d) || at f.ports (enters ps d)) o
      (T_or₁ (eqb (d / 2) f.name || at f.ports (leaves ps d)) (at f.ports (enters ps d)) (T_or₂ (eqb (d / 2) f.name) (at f.ports (leaves ps d)) h))

  pub within_enters : T (in_play on d) → T (at f.ports (enters ps d)) → T (within np ps on f d)
  unfolding within
  within_enters o h =
      T_and (in_play on d) (eqb (d / 2) f.name || at f.ports (leaves ps d) || at f.ports (enters ps d)) o
      (T_or₂ (eqb (d / 2) f.name || at f.ports (leaves ps d)) (at f.ports (enters ps d)) h)

pub within_reverse : (np : ℕ) (ps : List ℕ) (on : List Bool) (f : Fragment) (d : ℕ) → T (within np ps on f d) → T (within np ps on f (reverse d))
within_reverse np ps on f d h =
    let o = play_reverse on d (within_play np ps on f d h) in
    ⊎_elim (λ e. within_own np ps on f (reverse d) o (reverse_channel d ∙ e))
    (λ e. ⊎_elim (λ i. within_enters np ps on f (reverse d) o (rw (enters_reverse ps d) i)) (λ i. within_leaves np ps on f (reverse d) o (rw (leaves_reverse ps d) i)) e)
    (within_cases np ps on f d h)

-- ---- the fragment of channel k

abbrev pub unlaid : List Bool → ℕ → Bool
unlaid lp p = not (at lp p)

module _ (np : ℕ) (ps : List ℕ) (on lp : List Bool) where
  abbrev pub inside : ℕ → List Bool
  inside k = iter (larger ps (in_play on) (unlaid lp)) np (seed np ps on lp k)

  abbrev pub of_fragment : ℕ → ℕ → Bool
  of_fragment k d = within np ps on (fragment_at np ps on lp k) d

  abbrev pub beside : ℕ → ℕ → ℕ → Bool
  beside k x p = at (inside k) p || eqb p x

  pub seed_unlaid : (k y : ℕ) → T (at (seed np ps on lp k) y) → T (unlaid lp y)
  unfolding seed
  seed_unlaid k y =
      cond_cases (λ (s : List Bool). T (at s y) → T (unlaid lp y)) (at lp (leaves ps (2 * k)))
      (λ a.
      cond_cases (λ (s : List Bool). T (at s y) → T (unlaid lp y)) (at lp (enters ps (2 * k)))
      (λ b h. absurd (at_none np y h)) (λ b h. subst (λ (z : ℕ). T (unlaid lp z)) (sym (only_is np (enters ps (2 * k)) y h)) b))
      (λ a h. subst (λ (z : ℕ). T (unlaid lp z)) (sym (only_is np (leaves ps (2 * k)) y h)) a)

  pub seed_in : (k z : ℕ) → T (at (seed np ps on lp k) z) → T (at (inside k) z)
  seed_in k z h = iter_more (larger ps (in_play on) (unlaid lp)) (larger_keeps ps (in_play on) (unlaid lp)) np (seed np ps on lp k) z h

  pub length_seed : (k : ℕ) → length (seed np ps on lp k) ≡ np
  unfolding seed
  length_seed k =
      cond_cases (λ (s : List Bool). length s ≡ np) (at lp (leaves ps (2 * k)))
      (λ a. cond_cases (λ (s : List Bool). length s ≡ np) (at lp (enters ps (2 * k))) (λ b. length-replicate np false) (λ b. length_only np (enters ps (2 * k))))
      (λ a. length_only np (leaves ps (2 * k)))

  pub length_inside : (k : ℕ) → length (inside k) ≡ np
  length_inside k = iter_length (larger ps (in_play on) (unlaid lp)) (length_larger ps (in_play on) (unlaid lp)) np (seed np ps on lp k) ∙ length_seed k

  -- its ports are unlaid
  pub inside_unlaid : (k p : ℕ) → T (at (inside k) p) → T (unlaid lp p)
  inside_unlaid k p h =
      let r = reached_from ps (in_play on) (unlaid lp) np (seed np ps on lp k) p h in
      way_start ps (in_play on) (unlaid lp) p r.2.0 r.0 r.2.1 (seed_unlaid k r.0 r.1)

  -- its darts
  pub of_cases : (k d : ℕ) → T (of_fragment k d) → (d / 2 ≡ k) ⊎ (T (at (inside k) (leaves ps d)) ⊎ T (at (inside k) (enters ps d)))
  unfolding fragment_at
  of_cases k d h = within_cases np ps on (fragment_at np ps on lp k) d h

  pub of_own_lem : (k d : ℕ) → T (at on k) → d / 2 ≡ k → T (of_fragment k d)
  unfolding fragment_at
  of_own_lem k d o e = within_own np ps on (fragment_at np ps on lp k) d (rw e o) e

  pub of_leaves : (k d : ℕ) → T (in_play on d) → T (at (inside k) (leaves ps d)) → T (of_fragment k d)
  unfolding fragment_at
  of_leaves k d o h = within_leaves np ps on (fragment_at np ps on lp k) d o h

  pub of_play : (k d : ℕ) → T (of_fragment k d) → T (in_play on d)
  of_play k d h = within_play np ps on (fragment_at np ps on lp k) d h

  pub of_reverse : (k d : ℕ) → T (of_fragment k d) → T (of_fragment k (reverse d))
  of_reverse k d h = within_reverse np ps on (fragment_at np ps on lp k) d h

  -- ---- the two kinds of fragment

  abbrev pub Single : ℕ → Type 0
  Single k = T (at lp (leaves ps (2 * k))) × T (at lp (enters ps (2 * k))) × (seed np ps on lp k ≡ replicate np false)

  abbrev pub Rooted : ℕ → Type 0
  Rooted k = (r : ℕ) × (seed np ps on lp k ≡ only np r)
      × (((r ≡ leaves ps (2 * k)) × T (unlaid lp (leaves ps (2 * k)))) ⊎ ((r ≡ enters ps (2 * k)) × T (unlaid lp (enters ps (2 * k)))))

  pub fragment_kind : (k : ℕ) → Single k ⊎ Rooted k
  unfolding seed
  fragment_kind k = go (at lp (leaves ps (2 * k))) refl (at lp (enters ps (2 * k))) refl
    where
      go : (b : Bool) → at lp (leaves ps (2 * k)) ≡ b → (c : Bool) → at lp (enters ps (2 * k)) ≡ c → Single k ⊎ Rooted k
      go false e c f = inr (leaves ps (2 * k), rw e, inl (refl, rw e tt))
      go true e false f = inr (enters ps (2 * k), rw (e, f), inr (refl, rw f tt))
      go true e true f = inl (rw e tt, rw f tt, rw (e, f))

  -- a single channel's darts
  pub single_own : (k : ℕ) → Single k → (d : ℕ) → T (of_fragment k d) → d / 2 ≡ k
  single_own k S d h = ⊎_elim (λ e. e) (λ e. ⊎_elim (λ i. absurd (empty (leaves ps d) i)) (λ i. absurd (empty (enters ps d) i)) e) (of_cases k d h)
    where
      empty : (p : ℕ) → T (at (inside k) p) → ⊥
      empty p i =
          let r = reached_from ps (in_play on) (unlaid lp) np (seed np ps on lp k) p i in
          at_none np r.0 (subst (λ (s : List Bool). T (at s r.0)) S.2 r.1)

-- ---- nothing of it is laid

module _ (np : ℕ) (ps : List ℕ) (on lp : List Bool) (t : List ℕ)
    (lpt : (z : ℕ) → T (laid t z) → T (at lp (leaves ps z))) (pair : (z : ℕ) → laid t (reverse z) ≡ laid t z) where
  -- a dart at an unlaid port is unlaid
  pub at_unlaid : (d : ℕ) → T (unlaid lp (leaves ps d)) → laid t d ≡ false
  at_unlaid d h = T_isnt (laid t d) (λ k. T_not (at lp (leaves ps d)) h (lpt d k))

  pub within_unlaid : (k d : ℕ) → laid t (2 * k) ≡ false → T (of_fragment np ps on lp k d) → laid t d ≡ false
  within_unlaid k d u h =
      ⊎_elim (λ e. own e)
      (λ e. ⊎_elim
      (λ i. at_unlaid d (inside_unlaid np ps on lp k (leaves ps d) i))
      (λ i. sym (pair d) ∙ at_unlaid (reverse d) (rw (leaves_reverse ps d) (inside_unlaid np ps on lp k (enters ps d) i))) e)
      (of_cases np ps on lp k d h)
    where
      own : d / 2 ≡ k → laid t d ≡ false
      own e = ⊎_elim (λ q. ap (laid t) q ∙ u) (λ q. ap (laid t) q ∙ pair (2 * k) ∙ u) (channel_darts d k e)

-- ---- ways inside it

module _ (np : ℕ) (ps : List ℕ) (on lp : List Bool) (size2 : length ps ≡ 2 * length on) (inn : (d : ℕ) → d < length ps → leaves ps d < np) where
  abbrev ports_at : ℕ → List Bool
  ports_at k = inside np ps on lp k

  whole_play : Whole ps (in_play on)
  whole_play = whole_of ps (in_play on) (play_dart ps on size2)

  pub root_in : (k : ℕ) (R : Rooted np ps on lp k) → T (at on k) → R.0 < np
  root_in k R o =
      let b : 2 * k < length ps = omega (arith, at_lt on k o) in
      ⊎_elim (λ e. rw e.0 (inn (2 * k) b)) (λ e. rw (e.0 ∙ sym (leaves_reverse ps (2 * k))) (inn (reverse (2 * k)) (dart_reverse ps on size2 (2 * k) b))) R.2

  pub root_inside : (k : ℕ) (R : Rooted np ps on lp k) → T (at on k) → T (at (ports_at k) R.0)
  root_inside k R o = seed_in np ps on lp k R.0 (rw R.1 (only_self np R.0 (root_in k R o)))

  -- nothing is left to add to it
  pub rooted_closed : (k : ℕ) → Rooted np ps on lp k → T (at on k) → larger ps (in_play on) (unlaid lp) (ports_at k) ≡ ports_at k
  rooted_closed k R o =
      iter_closed (larger ps (in_play on) (unlaid lp)) (length_larger ps (in_play on) (unlaid lp)) (larger_keeps ps (in_play on) (unlaid lp)) np (seed np ps on lp k)
      (omega (arith, length_seed np ps on lp k, ap size R.1, size_only np R.0 (root_in k R o)))

  module _ (k : ℕ) (shut : larger ps (in_play on) (unlaid lp) (ports_at k) ≡ ports_at k) where
    -- what has a way to the fragment is in it
    pub inside_holds : (p : ℕ) (w : List ℕ) (y : ℕ) → Way ps (in_play on) (unlaid lp) p w y → T (at (ports_at k) y) → T (at (ports_at k) p)
    inside_holds p w y h t =
        way_closed ps (in_play on) (unlaid lp) whole_play (ports_at k) shut
        (λ d o. omega (arith, inn d (play_dart ps on size2 d o), length_inside np ps on lp k)) p w y h t

    -- and the way is the fragment's
    pub inside_way : (x p : ℕ) (w : List ℕ) (y : ℕ) → Way ps (in_play on) (unlaid lp) p w y → T (at (ports_at k) y)
        → Way ps (of_fragment np ps on lp k) (beside np ps on lp k x) p w y
    inside_way x p [] y h t = h
    inside_way x p (d ∷ w) y h t =
        let i = inside_holds p (d ∷ w) y h t in
        (of_leaves np ps on lp k d h.0 (rw h.1 i), h.1, T_or₁ (at (ports_at k) p) (eqb p x) i, inside_way x (enters ps d) w y h.3 t)

    -- from one port beside the fragment to another, where it has one root
    pub rooted_connect : (r : ℕ) → seed np ps on lp k ≡ only np r → (x y d e : ℕ) → T (of_fragment np ps on lp k d) → leaves ps d ≡ x → T (at (ports_at k) (enters ps d))
        → T (of_fragment np ps on lp k e) → leaves ps e ≡ y → T (at (ports_at k) (enters ps e)) → Linked ps (of_fragment np ps on lp k) (beside np ps on lp k x) x y
    rooted_connect r sr x y d e okd td id oke te ie =
        let ok = of_fragment np ps on lp k in
        let free = beside np ps on lp k x in
        let a = reached_from ps (in_play on) (unlaid lp) np (seed np ps on lp k) (enters ps d) id in
        let b = reached_from ps (in_play on) (unlaid lp) np (seed np ps on lp k) (enters ps e) ie in
        let root : (z : ℕ) → T (at (seed np ps on lp k) z) → z ≡ r = (λ z h. only_is np r z (subst (λ (s : List Bool). T (at s z)) sr h)) in
        let same : a.0 ≡ b.0 = root a.0 a.1 ∙ sym (root b.0 b.1) in
        let ia : T (at (ports_at k) a.0) = seed_in np ps on lp k a.0 a.1 in
        let ib : T (at (ports_at k) b.0) = seed_in np ps on lp k b.0 b.1 in
        let start : Linked ps ok free x (enters ps d) = (d ∷ [], (okd, td, T_or₂ (at (ports_at k) x) (eqb x x) (eqb_refl x), refl)) in
        let down : Linked ps ok free (enters ps d) a.0 = (a.2.0, inside_way x (enters ps d) a.2.0 a.0 a.2.1 ia) in
        let up : Linked ps ok free b.0 (enters ps e) =
        linked_back ps ok free (of_reverse np ps on lp k) (T_or₁ (at (ports_at k) b.0) (eqb b.0 x) ib) (b.2.0, inside_way x (enters ps e) b.2.0 b.0 b.2.1 ib) in
        let end : Linked ps ok free (enters ps e) y = (
          reverse e ∷ [],
          (of_reverse np ps on lp k e oke, leaves_reverse ps e, T_or₁ (at (ports_at k) (enters ps e)) (eqb (enters ps e) x) ie, enters_reverse ps e ∙ te),
        ) in
        linked_join ps ok free start (linked_join ps ok free down (linked_join ps ok free (subst (λ (z : ℕ). Linked ps ok free z (enters ps e)) (sym same) up) end))

  -- a dart of a rooted fragment that leaves a laid port enters the fragment
  pub rooted_enters : (k : ℕ) → Rooted np ps on lp k → T (at on k) → (d : ℕ) → T (of_fragment np ps on lp k d) → T (at lp (leaves ps d)) → T (at (ports_at k) (enters ps d))
  rooted_enters k R o d h l =
      ⊎_elim
      (λ e. ⊎_elim
      (λ q. subst (λ (z : ℕ). T (at (ports_at k) z)) (other (2 * k) (subst (λ (z : ℕ). T (at lp (leaves ps z))) q l) R.2 ∙ ap (enters ps) (sym q)) (root_inside k R o))
      (λ q. subst (λ (z : ℕ). T (at (ports_at k) z)) (otherᵣ (2 * k) (subst (λ (z : ℕ). T (at lp z)) (ap (leaves ps) q ∙ leaves_reverse ps (2 * k)) l) R.2 ∙ sym (enters_reverse ps (2 * k)) ∙ ap (enters ps) (sym q)) (root_inside k R o))
      (channel_darts d k e))
      (λ e. ⊎_elim (λ i. absurd (T_not (at lp (leaves ps d)) (inside_unlaid np ps on lp k (leaves ps d) i) l)) (λ i. i) e)
      (of_cases np ps on lp k d h)
    where
      other : (c : ℕ) → T (at lp (leaves ps c)) → ((R.0 ≡ leaves ps c) × T (unlaid lp (leaves ps c))) ⊎ ((R.0 ≡ enters ps c) × T (unlaid lp (enters ps c))) → R.0 ≡ enters ps c
      other c m (inl a) = absurd (T_not (at lp (leaves ps c)) a.1 m)
      other c m (inr a) = a.0

      otherᵣ : (c : ℕ) → T (at lp (enters ps c)) → ((R.0 ≡ leaves ps c) × T (unlaid lp (leaves ps c))) ⊎ ((R.0 ≡ enters ps c) × T (unlaid lp (enters ps c))) → R.0 ≡ leaves ps c
      otherᵣ c m (inl a) = a.0
      otherᵣ c m (inr a) = absurd (T_not (at lp (enters ps c)) a.1 m)

  -- from one contact to another a way leads inside the fragment
  pub contacts_linked : (k : ℕ) → T (at on k) → (x y d e : ℕ) → x ≢ y → T (of_fragment np ps on lp k d) → leaves ps d ≡ x → T (at lp x)
      → T (of_fragment np ps on lp k e) → leaves ps e ≡ y → T (at lp y) → Linked ps (of_fragment np ps on lp k) (beside np ps on lp k x) x y
  contacts_linked k o x y d e ne hd td lx he te ly =
      ⊎_elim
      (λ S. (
        d ∷ [],
        (hd, td, T_or₂ (at (ports_at k) x) (eqb x x) (eqb_refl x), channel_opposite ps k d e (single_own np ps on lp k S d hd) (single_own np ps on lp k S e he) (λ q. ne (sym td ∙ q ∙ te)) ∙ te),
      ))
      (λ R. rooted_connect k (rooted_closed k R o) R.0 R.1 x y d e
      hd td (rooted_enters k R o d hd (subst (λ (z : ℕ). T (at lp z)) (sym td) lx)) he te (rooted_enters k R o e he (subst (λ (z : ℕ). T (at lp z)) (sym te) ly)))
      (fragment_kind np ps on lp k)

  -- ---- its contacts

  abbrev contacts_at : ℕ → List ℕ
  contacts_at k = contacts_of np ps on lp (fragment_at np ps on lp k)

  pub contacts_from : (k p : ℕ) → 1 ≤ count p (contacts_at k) → T (at lp p) × ((d : ℕ) × T (of_fragment np ps on lp k d) × (leaves ps d ≡ p))
  unfolding contacts_of
  contacts_from k p h =
      let a = and_T (at lp p) (any (λ d. of_fragment np ps on lp k d && eqb (leaves ps d) p) (from 0 (length ps))) (keep_T _ (from 0 np) p h) in
      let r = any_T (λ d. of_fragment np ps on lp k d && eqb (leaves ps d) p) (from 0 (length ps)) a.1 in
      let b = and_T (of_fragment np ps on lp k r.0) (eqb (leaves ps r.0) p) r.2 in
      (a.0, (r.0, b.0, eqb→eq (leaves ps r.0) p b.1))

  pub contacts_adds : (k p d : ℕ) → T (at lp p) → p < np → T (of_fragment np ps on lp k d) → leaves ps d ≡ p → 1 ≤ count p (contacts_at k)
  unfolding contacts_of
  contacts_adds k p d l b h e =
      T_keep _ (from 0 np) p (count_from p 0 np (omega arith) (omega arith))
      (T_and (at lp p) (any (λ c. of_fragment np ps on lp k c && eqb (leaves ps c) p) (from 0 (length ps))) l
      (T_any (λ c. of_fragment np ps on lp k c && eqb (leaves ps c) p) (from 0 (length ps)) d (whole_play d (of_play np ps on lp k d h))
      (T_and (of_fragment np ps on lp k d) (eqb (leaves ps d) p) h (rw e (eqb_refl p)))))

  pub contacts_once : (k z : ℕ) → count z (contacts_at k) ≤ 1
  unfolding contacts_of
  contacts_once k z = omega (arith, keep_le (λ p. at lp p && any (λ d. of_fragment np ps on lp k d && eqb (leaves ps d) p) (from 0 (length ps))) (from 0 np) z, from_once z 0 np)

  -- ---- two contacts at least, where no port cuts

  abbrev Alone : ℕ → ℕ → Type 0
  Alone k c = (p d : ℕ) → T (at lp p) → T (of_fragment np ps on lp k d) → leaves ps d ≡ p → p ≡ c

  -- a way that avoids its only contact does not leave the fragment
  pub alone_stays : (k c : ℕ) → larger ps (in_play on) (unlaid lp) (ports_at k) ≡ ports_at k → Alone k c → (p : ℕ) (w : List ℕ) (y : ℕ) → Way ps (in_play on) (but c) p w y → T (but c y)
      → T (at (ports_at k) p) → T (at (ports_at k) y)
  alone_stays k c shut al p [] y h f i = subst (λ (z : ℕ). T (at (ports_at k) z)) h i
  alone_stays k c shut al p (d ∷ w) y h f i =
      let here : T (at (ports_at k) (leaves ps d)) = rw h.1 i in
      let new : T (but c (enters ps d)) = way_start ps (in_play on) (but c) (enters ps d) w y h.3 f in
      let back : T (of_fragment np ps on lp k (reverse d)) = of_reverse np ps on lp k d (of_leaves np ps on lp k d h.0 here) in
      let free : T (unlaid lp (enters ps d)) = not_T (at lp (enters ps d)) (λ l. neqb_ne (enters ps d) c new (al (enters ps d) (reverse d) l back (leaves_reverse ps d))) in
      alone_stays k c shut al (enters ps d) w y h.3 f
      (inside_holds k shut (enters ps d) (reverse d ∷ []) (leaves ps d) (play_reverse on d h.0, leaves_reverse ps d, free, enters_reverse ps d) here)

  -- the root is touched
  pub root_touched : (k : ℕ) (R : Rooted np ps on lp k) → T (at on k) → Touched ps on R.0
  root_touched k R o =
      let d : T (in_play on (2 * k)) = rw (channel_of k) o in
      ⊎_elim (λ e. (2 * k, d, sym e.0)) (λ e. (reverse (2 * k), play_reverse on (2 * k) d, leaves_reverse ps (2 * k) ∙ sym e.0)) R.2

  module _ (whole : Firm ps on) (Laid-in : (p : ℕ) → T (at lp p) → p < np) (touched : (p : ℕ) → T (at lp p) → Touched ps on p) (second : (c : ℕ) → (w : ℕ) × T (at lp w) × (w ≢ c)) where
    pub alone_not : (k c : ℕ) → Rooted np ps on lp k → T (at on k) → T (at lp c) → Alone k c → ⊥
    alone_not k c R o lc al =
        let w = second c in
        let un = inside_unlaid np ps on lp k R.0 (root_inside k R o) in
        let rc : R.0 ≢ c = (λ e. T_not (at lp R.0) un (rw e lc)) in
        let m = whole c R.0 w.0 (touched c lc) (root_touched k R o) (touched w.0 w.1) rc w.2 in
        T_not (at lp w.0) (inside_unlaid np ps on lp k w.0 (alone_stays k c (rooted_closed k R o) al R.0 m.0 w.0 m.1 (ne_neqb w.0 c w.2) (root_inside k R o))) w.1

    pub contacts_another : (k c : ℕ) → T (at on k) → leaves ps (2 * k) ≢ enters ps (2 * k) → T (at lp c) → (p : ℕ) × (1 ≤ count p (contacts_at k)) × (p ≢ c)
    contacts_another k c o loop lc =
        ⊎_elim
        (λ S. ⊎_elim
        (λ e. (enters ps (2 * k), contacts_adds k (enters ps (2 * k)) (reverse (2 * k)) S.1 (Laid-in _ S.1) (of_own_lem np ps on lp k (reverse (2 * k)) o (reverse_channel (2 * k) ∙ channel_of k)) (leaves_reverse ps (2 * k)), (λ q. loop (e ∙ sym q))))
        (λ n. (leaves ps (2 * k), contacts_adds k (leaves ps (2 * k)) (2 * k) S.0 (Laid-in _ S.0) (of_own_lem np ps on lp k (2 * k) o (channel_of k)) refl, is_apart (leaves ps (2 * k)) c n))
        (is_cases (leaves ps (2 * k)) c))
        (λ R. rooted R (any (but c) (contacts_at k)) refl)
        (fragment_kind np ps on lp k)
      where
        rooted : Rooted np ps on lp k → (b : Bool) → any (but c) (contacts_at k) ≡ b → (p : ℕ) × (1 ≤ count p (contacts_at k)) × (p ≢ c)
        rooted R true e = let r = any_T (but c) (contacts_at k) (rw e tt) in (r.0, r.1, neqb_ne r.0 c r.2)
        rooted R false e =
            absurd (alone_not k c R o lc (λ p d l h q.
            ⊎_elim (λ z. z)
            (λ n. absurd (subst (λ (b : Bool). T b) e (T_any (but c) (contacts_at k) p (contacts_adds k p d l (Laid-in p l) h q) (ne_neqb p c (is_apart p c n)))))
            (is_cases p c)))

    -- the first two contacts
    pub contacts_two : (k : ℕ) → T (at on k) → leaves ps (2 * k) ≢ enters ps (2 * k)
        → (2 ≤ length (contacts_at k)) × (get_or (contacts_at k) 0 0 ≢ get_or (contacts_at k) 1 0)
        × (1 ≤ count (get_or (contacts_at k) 0 0) (contacts_at k)) × (1 ≤ count (get_or (contacts_at k) 1 0) (contacts_at k))
    contacts_two k o loop =
        let z = second 0 in
        let a = contacts_another k z.0 o loop z.1 in
        let b = contacts_another k a.0 o loop (contacts_from k a.0 a.1).0 in
        two (contacts_at k) (contacts_once k) a.0 b.0 (λ e. b.2 (sym e)) a.1 b.1
