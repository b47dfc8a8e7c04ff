-- What a path leaves of the other fragments: their contacts, and the lands that are not admissible for them.
--   Misses np ps on t ls k i    land i of ls does not visit every contact of the fragment of channel k, where the turns are t
--   lp, fr, c, x, y, q          of the path that is laid, as in Rounds: the laid ports, the fragment, its choice, its two smallest contacts, the path
--   z, lz, D                    the state after the path, its laid ports, and how it comes from the state before
-- visits_old: no land visits a laid port that it did not visit before the path. inside_shared: of two fragments with a port in common, each has the channel that the other is found at. laid_stays, laid_new: the ports laid afterwards are those laid before, and some of the fragment's.
-- seed_stays, inside_stays, of_stays, contacts_stay: so another fragment keeps its ports, its darts and its contacts.
-- misses_stays: a land that misses a contact of a channel's fragment misses one afterwards, unless the path is laid for that fragment.
-- Assumes nothing.
use mathlib.Core.Path.{◌≡◌, refl, sym, ap, ◌∙◌, subst}
use mathlib.Core.Logic.{◌⊎◌, inl, inr, ⊎_elim}
use mathlib.Core.Bool.{Bool, false}
use mathlib.Core.List.{List, [], ◌∷◌, ◌++◌}
use Prim.Native.Nat.{ℕ, zero, suc, ◌+◌, ◌*◌, ◌<◌, ◌≤◌}
use native.Mathlib.Nat.{eq-zero-or-pos}
use native.Mathlib.Omega.{arith}
use lib.Dec.{T, T_not, not_T, eqb, eqb→eq}
use lib.ListN.{length, get_or, replicate}
use Rattle.rules.specs.Lists.{from, all, at}
use Rattle.rules.specs.Terms.{leaves, reverse, enters, laid, visits, listed}
use Rattle.rules.specs.Ways.{iter, larger, path, in_play}
use Rattle.rules.specs.Laying.{State, Fragment, Choice, back, admissible, laid_ports, within, seed, fragment_at, contacts_of, choice_of, lay}
use Rattle.laws.proofs.Tests.{T_isnt, eq_eqb, same_flag, or_T}
use Rattle.laws.proofs.Counts.{flag, flag_T, T_flag, is_cases, is_apart, count, count_head, count_append}
use Rattle.laws.proofs.Lists.{any_T, T_any, all_T, T_all}
use Rattle.laws.proofs.Sets.{at_none, only_is, Sub, iter_more}
use Rattle.laws.proofs.Runs.{channel_of, count_back, count_listed}
use Rattle.laws.proofs.Trails.{enters_reverse, trail_leaves, trail_enters, inner, inner_leaves}
use Rattle.laws.proofs.Reaches.{Whole, whole_of, play_dart, play_reverse, grow_from, grow_adds, larger_keeps, length_larger, linked_back, reached_from}
use Rattle.laws.proofs.Fragments.{laid_ports_from, within_enters, within_leaves, unlaid, inside, of_fragment, seed_unlaid, length_seed, inside_unlaid, of_cases, of_own_lem, of_leaves, of_play, fragment_kind, rooted_closed, inside_holds, contacts_from, contacts_adds}
use Rattle.laws.proofs.Choices.{Open, laid_now, Sensible}
use Rattle.laws.proofs.Rounds.{Layable, Kept, kept_laid, kept_port, kept_lay, lay_contacts, lay_contact, lay_path, lay_laid, lay_head, lay_way}
use Rattle.laws.proofs.Steps.{Parted, parted_same, parted_kept, parted_others, parted_lay}

abbrev pub Misses : ℕ → List ℕ → List Bool → List ℕ → List (List ℕ) → ℕ → ℕ → Type 0
Misses np ps on t ls k i =
    let lp = laid_ports ps t (from 0 (length ps)) (replicate np false) in
    all (visits ps (get_or ls i [])) (contacts_of np ps on lp (fragment_at np ps on lp k)) ≡ false

-- ---- sets that grow

-- what grows out of more, where every port that is added is free as well, holds what grows out of less
reached_sub : (ps : List ℕ) (ok free other : ℕ → Bool) → Whole ps ok → (n : ℕ) (s r : List Bool) → ((d : ℕ) → T (ok d) → leaves ps d < length r) → Sub s r
    → ((p : ℕ) → T (at (iter (larger ps ok free) n s) p) → T (other p)) → Sub (iter (larger ps ok free) n s) (iter (larger ps ok other) n r)
unfolding iter
reached_sub ps ok free other hw zero s r b h f = h
reached_sub ps ok free other hw (suc n) s r b h f =
    reached_sub ps ok free other hw n (larger ps ok free s) (larger ps ok other r) (λ d k. rw (length_larger ps ok other r) (b d k))
    (λ p t. ⊎_elim (λ k. larger_keeps ps ok other r p (h p k))
    (λ j. grow_adds ps ok other r (from 0 (length ps)) r p j.0 (subst (λ (i : ℕ). i < length r) j.2.3 (b j.0 j.2.0)) j.1
    (j.2.0, h (enters ps j.0) j.2.1, f p (iter_more (larger ps ok free) (larger_keeps ps ok free) n (larger ps ok free s) p t), j.2.3))
    (grow_from ps ok free s (from 0 (length ps)) s p t))
    f

-- ---- the lands

module _ (ps : List ℕ) (s z : State) (D : Parted ps s z) where
  -- the path followed by B visits no laid port that the land did not
  kept_visits : (w : ℕ) → T (laid s.turns w) → T (visits ps (listed ((D.d ∷ D.q) ++ D.b ∷ D.n)) (leaves ps w)) → T (visits ps (get_or s.lands D.land []) (leaves ps w))
  unfolding visits
  kept_visits w l t =
      let r = any_T (λ d. eqb (leaves ps d) (leaves ps w)) (listed ((D.d ∷ D.q) ++ D.b ∷ D.n)) t in
      let e : leaves ps r.0 ≡ leaves ps w = eqb→eq (leaves ps r.0) (leaves ps w) r.2 in
      ⊎_elim
      (λ n. old r.0 (omega (arith, n, r.1, count_listed r.0 ((D.d ∷ D.q) ++ D.b ∷ D.n), count_append r.0 (D.d ∷ D.q) (D.b ∷ D.n), count_append r.0 (D.a ∷ D.m) (D.b ∷ D.n))) e)
      (λ c. ⊎_elim
      (λ k. old D.a (omega (arith, count_head D.a D.m, count_append D.a (D.a ∷ D.m) (D.b ∷ D.n))) (D.from_x ∙ sym k ∙ e))
      (λ k. absurd (omega (arith, D.between w l, ap (λ (p : ℕ). count p (inner ps (D.d ∷ D.q))) e)))
      (trail_leaves ps D.x D.d D.q D.y r.0 D.way c))
      (eq-zero-or-pos (count r.0 (D.d ∷ D.q)))
    where
      old : (d : ℕ) → 1 ≤ count d ((D.a ∷ D.m) ++ D.b ∷ D.n) → leaves ps d ≡ leaves ps w → T (visits ps (get_or s.lands D.land []) (leaves ps w))
      old d c e = T_any (λ d. eqb (leaves ps d) (leaves ps w)) (get_or s.lands D.land []) d (omega (arith, parted_same ps s z D d)) (eq_eqb (leaves ps d) (leaves ps w) e)

  -- a land visits no laid port that it did not visit before
  visits_old : (i : ℕ) → i < length s.lands → (w : ℕ) → T (laid s.turns w) → T (visits ps (get_or z.lands i []) (leaves ps w)) → T (visits ps (get_or s.lands i []) (leaves ps w))
  visits_old i b w l t =
      ⊎_elim
      (λ e. subst (λ (j : ℕ). T (visits ps (get_or s.lands j []) (leaves ps w))) (sym e)
      (kept_visits w l (subst (λ (m : List ℕ). T (visits ps m (leaves ps w))) (ap (λ (j : ℕ). get_or z.lands j []) e ∙ parted_kept ps s z D) t)))
      (λ n. subst (λ (m : List ℕ). T (visits ps m (leaves ps w))) (parted_others ps s z D i b (is_apart i D.land n)) t)
      (is_cases i D.land)

-- ---- fragments with a port in common

module _ (np : ℕ) (ps : List ℕ) (on lp : List Bool) (G : Layable np ps on) where
  -- channel k is of every fragment that has a port of the fragment at k
  inside_shared : (j k : ℕ) → T (at on j) → T (at on k) → (p : ℕ) → T (at (inside np ps on lp j) p) → T (at (inside np ps on lp k) p) → T (of_fragment np ps on lp j (2 * k))
  unfolding fragment_at
  inside_shared j k o play p i h =
      let r = reached_from ps (in_play on) (unlaid lp) np (seed np ps on lp k) p h in
      let w = linked_back ps (in_play on) (unlaid lp) (play_reverse on) (seed_unlaid np ps on lp k r.0 r.1) r.2 in
      let m : T (at (inside np ps on lp j) r.0) =
      ⊎_elim (λ S. let q = reached_from ps (in_play on) (unlaid lp) np (seed np ps on lp j) p i in absurd (at_none np q.0 (subst (λ (v : List Bool). T (at v q.0)) S.2 q.1)))
      (λ R. inside_holds np ps on lp G.size2 G.inn j (rooted_closed np ps on lp G.size2 G.inn j R o) r.0 w.0 p w.1 i)
      (fragment_kind np ps on lp j) in
      let f = fragment_at np ps on lp j in
      let d : T (in_play on (2 * k)) = subst (λ (v : ℕ). T (at on v)) (sym (channel_of k)) play in
      ⊎_elim (λ S. absurd (at_none np r.0 (subst (λ (v : List Bool). T (at v r.0)) S.2 r.1)))
      (λ R.
      let e : r.0 ≡ R.0 = only_is np R.0 r.0 (subst (λ (v : List Bool). T (at v r.0)) R.1 r.1) in
      ⊎_elim (λ q. within_leaves np ps on f (2 * k) d (subst (λ (v : ℕ). T (at f.ports v)) (e ∙ q.0) m))
      (λ q. within_enters np ps on f (2 * k) d (subst (λ (v : ℕ). T (at f.ports v)) (e ∙ q.0) m)) R.2)
      (fragment_kind np ps on lp k)

-- ---- one path

module _ (np : ℕ) (ps : List ℕ) (on : List Bool) (G : Layable np ps on) (s : State) (K : Kept ps on s) where
  abbrev lp : List Bool
  lp = laid_now np ps s

  -- the path of the fragment at channel j
  module _ (j : ℕ) (u : laid s.turns (2 * j) ≡ false) (o : T (at on j))
      (fit : 1 ≤ length (admissible ps (contacts_of np ps on lp (fragment_at np ps on lp j)) 0 s.lands)) where
    abbrev fr : Fragment
    fr = fragment_at np ps on lp j

    abbrev c : Choice
    c = choice_of np ps on lp s.lands fr

    abbrev x : ℕ
    x = get_or (contacts_of np ps on lp fr) 0 0

    abbrev y : ℕ
    y = get_or (contacts_of np ps on lp fr) 1 0

    abbrev q : List ℕ
    q = path np ps (within np ps on fr) (at fr.ports) x y

    abbrev z : State
    z = lay np ps on s c

    abbrev lz : List Bool
    lz = laid_now np ps z

    sensible : Sensible np ps on s c
    sensible = (j, refl, u, o)

    is_open : Open c
    unfolding choice_of
    is_open = fit

    kept : Kept ps on z
    kept = kept_lay np ps on G s K c sensible is_open

    D : Parted ps s z
    D = parted_lay np ps on G s K c sensible is_open

    -- ---- what is laid afterwards

    -- a laid port stays laid
    laid_stays : (p : ℕ) → T (at lp p) → T (at lz p)
    laid_stays p h =
        ⊎_elim (λ m. absurd (at_none np p m))
        (λ w. subst (λ (v : ℕ). T (at lz v)) w.2 (kept_laid np ps on G z kept w.0 (T_flag (laid z.turns w.0) (omega (arith, D.after w.0, flag_T (laid s.turns w.0) w.1)))))
        (laid_ports_from ps s.turns (from 0 (length ps)) (replicate np false) p h)

    -- a dart of the path leaves a laid port or one of the fragment's
    path_leaves : (w : ℕ) → 1 ≤ count w q → T (at lp (leaves ps w)) ⊎ T (at fr.ports (leaves ps w))
    path_leaves w h =
        ⊎_elim inr
        (λ e. inl (subst (λ (v : ℕ). T (at lp v)) (sym (eqb→eq (leaves ps w) x e)) (lay_contact np ps on G s K j u o fit x (lay_contacts np ps on G s K j u o fit).2).0))
        (or_T (at fr.ports (leaves ps w)) (eqb (leaves ps w) x) ((lay_path np ps on G s K j u o fit).2 w h))

    -- and enters such a one
    path_enters : (w : ℕ) → 1 ≤ count w q → T (at lp (enters ps w)) ⊎ T (at fr.ports (enters ps w))
    path_enters w h =
        let Q = lay_head np ps on G s K j u o fit in
        let way = lay_way np ps on G s K j u o fit Q.0 Q.1.0 Q.1.1 in
        ⊎_elim
        (λ e. inl (subst (λ (v : ℕ). T (at lp v)) (sym e) (lay_contact np ps on G s K j u o fit y (lay_contacts np ps on G s K j u o fit).3).0))
        (λ n.
        let r = inner_leaves ps x Q.0 Q.1.0 y (enters ps w) way n in
        subst (λ (v : ℕ). T (at lp v) ⊎ T (at fr.ports v)) r.2 (path_leaves r.0 (subst (λ (m : List ℕ). 1 ≤ count r.0 m) (sym Q.1.1) r.1)))
        (trail_enters ps x Q.0 Q.1.0 y w way (subst (λ (m : List ℕ). 1 ≤ count w m) Q.1.1 h))

    -- the darts laid afterwards
    after : (w : ℕ) → flag (laid z.turns w) ≡ flag (laid s.turns w) + (count w q + count w (back q))
    unfolding lay choice_of
    after w = lay_laid np ps on G s K j u o fit w

    -- a port that is laid afterwards was laid, or is one of the fragment's
    laid_new : (p : ℕ) → T (at lz p) → T (at lp p) ⊎ T (at fr.ports p)
    laid_new p h =
        ⊎_elim (λ m. absurd (at_none np p m)) (λ w. subst (λ (v : ℕ). T (at lp v) ⊎ T (at fr.ports v)) w.2 (go w.0 w.1))
        (laid_ports_from ps z.turns (from 0 (length ps)) (replicate np false) p h)
      where
        go : (w : ℕ) → T (laid z.turns w) → T (at lp (leaves ps w)) ⊎ T (at fr.ports (leaves ps w))
        go w l =
            ⊎_elim
            (λ n. ⊎_elim
            (λ m. inl (kept_laid np ps on G s K w (T_flag (laid s.turns w) (omega (arith, after w, flag_T (laid z.turns w) l)))))
            (λ m. subst (λ (v : ℕ). T (at lp v) ⊎ T (at fr.ports v)) (enters_reverse ps w) (path_enters (reverse w) (omega (arith, count_back w q))))
            (eq-zero-or-pos (count w (back q))))
            (path_leaves w)
            (eq-zero-or-pos (count w q))

    -- ---- the fragment of another channel

    module _ (k : ℕ) (play : T (at on k)) (other : T (of_fragment np ps on lp j (2 * k)) → ⊥) where
      -- it is found at the same port
      seed_stays : seed np ps on lz k ≡ seed np ps on lp k
      unfolding seed fragment_at
      seed_stays = rw (same (leaves ps (2 * k)) (within_leaves np ps on fr (2 * k) d), same (enters ps (2 * k)) (within_enters np ps on fr (2 * k) d))
        where
          d : T (in_play on (2 * k))
          d = subst (λ (v : ℕ). T (at on v)) (sym (channel_of k)) play

          same : (p : ℕ) → (T (at fr.ports p) → T (of_fragment np ps on lp j (2 * k))) → at lz p ≡ at lp p
          same p h = same_flag (at lz p) (at lp p) (λ t. ⊎_elim (λ i. i) (λ i. absurd (other (h i))) (laid_new p t)) (laid_stays p)

      -- it keeps its ports
      inside_stays : Sub (inside np ps on lp k) (inside np ps on lz k)
      unfolding fragment_at
      inside_stays =
          reached_sub ps (in_play on) (unlaid lp) (unlaid lz) (whole_of ps (in_play on) (play_dart ps on G.size2)) np (seed np ps on lp k) (seed np ps on lz k)
          (λ d h. omega (arith, G.inn d (play_dart ps on G.size2 d h), length_seed np ps on lz k)) (subst (Sub (seed np ps on lp k)) (sym seed_stays) (λ p h. h))
          (λ p h. not_T (at lz p) (λ t. ⊎_elim (T_not (at lp p) (inside_unlaid np ps on lp k p h)) (λ i. other (inside_shared np ps on lp G j k o play p i h)) (laid_new p t)))

      -- its darts
      of_stays : (d : ℕ) → T (of_fragment np ps on lp k d) → T (of_fragment np ps on lz k d)
      unfolding fragment_at
      of_stays d h =
          let i = of_play np ps on lp k d h in
          ⊎_elim (of_own_lem np ps on lz k d play)
          (⊎_elim (λ m. of_leaves np ps on lz k d i (inside_stays (leaves ps d) m)) (λ m. within_enters np ps on (fragment_at np ps on lz k) d i (inside_stays (enters ps d) m)))
          (of_cases np ps on lp k d h)

      -- and its contacts
      contacts_stay : (p : ℕ) → 1 ≤ count p (contacts_of np ps on lp (fragment_at np ps on lp k)) → 1 ≤ count p (contacts_of np ps on lz (fragment_at np ps on lz k))
      contacts_stay p h =
          let r = contacts_from np ps on lp G.size2 G.inn k p h in
          contacts_adds np ps on lz G.size2 G.inn k p r.1.0 (laid_stays p r.0) (kept_port np ps on G s K p r.0) (of_stays r.1.0 r.1.1) r.1.2

      misses_fragment : (i : ℕ) → i < length s.lands → Misses np ps on s.turns s.lands k i → Misses np ps on z.turns z.lands k i
      misses_fragment i b h =
          T_isnt _ (λ t. subst (λ (v : Bool). T v) h (T_all (visits ps (get_or s.lands i [])) (contacts_of np ps on lp (fragment_at np ps on lp k)) (old t)))
        where
          old : T (all (visits ps (get_or z.lands i [])) (contacts_of np ps on lz (fragment_at np ps on lz k))) → (p : ℕ) → 1 ≤ count p (contacts_of np ps on lp (fragment_at np ps on lp k)) → T (visits ps (get_or s.lands i []) p)
          old t p m =
              let v = all_T (visits ps (get_or z.lands i [])) (contacts_of np ps on lz (fragment_at np ps on lz k)) p t (contacts_stay p m) in
              ⊎_elim (λ n. absurd (at_none np p n))
              (λ w. subst (λ (r : ℕ). T (visits ps (get_or s.lands i []) r)) w.2 (visits_old ps s z D i b w.0 w.1 (subst (λ (r : ℕ). T (visits ps (get_or z.lands i []) r)) (sym w.2) v)))
              (laid_ports_from ps s.turns (from 0 (length ps)) (replicate np false) p (contacts_from np ps on lp G.size2 G.inn k p m).0)

-- A land that misses a contact of a channel's fragment misses one afterwards, unless the path is laid for that fragment.
pub misses_stays : (np : ℕ) (ps : List ℕ) (on : List Bool) → Layable np ps on → (s : State) → Kept ps on s → (c : Choice) → Sensible np ps on s c → Open c
    → (k : ℕ) → T (at on k) → within np ps on c.fragment (2 * k) ≡ false
    → (i : ℕ) → i < length s.lands → Misses np ps on s.turns s.lands k i → Misses np ps on (lay np ps on s c).turns (lay np ps on s c).lands k i
unfolding choice_of
misses_stays np ps on G s K c h p k o w i b r =
    subst
    (λ (e : Choice). Open e → within np ps on e.fragment (2 * k) ≡ false → Misses np ps on (lay np ps on s e).turns (lay np ps on s e).lands k i) (sym h.1)
    (λ fit n. misses_fragment np ps on G s K h.0 h.2 h.3 fit k o (λ t. subst (λ (v : Bool). T v) n t) i b r) p w
