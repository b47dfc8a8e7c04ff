-- The turns after one path (document 01, "Laying", the split): at x the path's first dart comes directly after the reverse of B's last dart, at y the reversed path's first dart directly after the reverse of A's last dart, and each is followed by what followed before; no other turn of a laid dart changes.
--   t, u                of the states before and after: the turns
--   path, A, B          of one path more: its darts, the stretch from x to y, the stretch from y to x
--   after_x, after_y      the dart at x after which the path's first dart comes, and the dart at y after which the reversed path's first dart comes
--   g                   the reversed path's first dart
-- land_unlisted: a land is one from whichever dart it is read. back_last, back_first, trail_last: the ends of a path. turn_..: the turns at x and y. turns_stay: those that do not change. turns_where: a turn changes at a port of the path only. turns_follow: what comes after an older dart. only_after_x, only_after_y: a new dart at x or y comes after one older dart alone.
-- Assumes nothing.
use mathlib.Core.Path.{◌≡◌, refl, sym, ap, ◌∙◌, subst}
use mathlib.Core.Logic.{◌≢◌, inl, inr, ⊎_elim}
use mathlib.Core.Bool.{false}
use mathlib.Core.List.{List, [], ◌∷◌, ◌++◌, map}
use Prim.Native.Nat.{ℕ, ◌≤◌, ◌<◌, ◌+◌, zero, suc}
use native.Mathlib.Nat.{not-suc-le-zero, eq-zero-or-pos}
use native.Mathlib.Omega.{arith}
use lib.Dec.{T}
use lib.ListN.{length, get_or, set}
use Rattle.rules.specs.Terms.{leaves, enters, reverse, missing, laid, next, listed}
use Rattle.rules.specs.Laying.{State, back, first, last, link, split_turns, split_lands}
use Rattle.laws.proofs.Counts.{flag, flag_T, flag_le, is, is_self, is_not, is_cases, is_apart, count, count_append, count_map}
use Rattle.laws.proofs.Lists.{All}
use Rattle.laws.proofs.Runs.{reverse_reverse, count_back, Run, Land, run_cut, land_turn, listed_keeps, last_in_lem}
use Rattle.laws.proofs.Links.{link_get}
use Rattle.laws.proofs.Trails.{leaves_reverse, enters_reverse, Trail, trail_cut, trail_end, trail_leaves, inner_le}
use Rattle.laws.proofs.Corners.{Closed}
use Rattle.laws.proofs.Sound.{all_at, Sound}
use Rattle.laws.proofs.FirstCycle.{back_head}
use Rattle.laws.proofs.Steps.{Parted, parted_old}
use Rattle.laws.proofs.Sweeps.{Follows}
use Rattle.laws.proofs.Turns.{run_last, closed_turned, turn_laid}

-- ---- the ends of a path

pub last_snoc : (l : List ℕ) (e : ℕ) → last (l ++ (e ∷ [])) ≡ e
unfolding last
last_snoc [] e = refl
last_snoc (x ∷ []) e = refl
last_snoc (x ∷ y ∷ l) e = last_snoc (y ∷ l) e

pub back_last : (d : ℕ) (q : List ℕ) → last (back (d ∷ q)) ≡ reverse d
unfolding back
back_last d q = last_snoc (back q) (reverse d)

pub back_first : (d : ℕ) (q : List ℕ) → first (back (d ∷ q)) ≡ reverse (last (d ∷ q))
unfolding back first last
back_first d [] = refl
back_first d (e ∷ q) =
    let h = back_head e q in
    ap (λ (m : List ℕ). first (m ++ (reverse d ∷ []))) h.1.1 ∙ sym (ap first h.1.1) ∙ back_first e q

pub trail_last : (ps : List ℕ) (p d : ℕ) (q : List ℕ) (y : ℕ) → Trail ps p (d ∷ q) y → enters ps (last (d ∷ q)) ≡ y
unfolding last
trail_last ps p d [] y h = h.1
trail_last ps p d (e ∷ q) y h = trail_last ps (enters ps d) e q y h.1

-- ---- one of all lands

pub land_unlisted : (t l : List ℕ) → Land t (listed l) → Land t l
land_unlisted t l = listed_keeps (λ (m : List ℕ). Land t m → Land t l) (λ u v h k. h (land_turn t v u k)) l (λ k. k)

pub all_last : {A : Type 0} (P : A → Type 0) (l : List A) (m : A) → All P (l ++ (m ∷ [])) → All P l × P m
all_last P [] m a = (tt, a.0)
all_last P (x ∷ l) m a = let r = all_last P l m a.1 in ((a.0, r.0), r.1)

pub all_set_at : {A : Type 0} (P : A → Type 0) (l : List A) (i : ℕ) (m : A) → i < length l → All P (set l i m) → P m
all_set_at P [] i m h a = absurd (not-suc-le-zero h)
all_set_at P (x ∷ l) zero m h a = a.0
all_set_at P (x ∷ l) (suc i) m h a = all_set_at P l i m (omega arith) a.1

-- ---- one path

module _ (ps : List ℕ) (s z : State) (K : Sound s.turns s.lands) (D : Parted ps s z) where
  abbrev t : List ℕ
  t = s.turns

  abbrev u : List ℕ
  u = z.turns

  abbrev pub path : List ℕ
  path = D.d ∷ D.q

  abbrev pub A : List ℕ
  A = D.a ∷ D.m

  abbrev pub B : List ℕ
  B = D.b ∷ D.n

  abbrev pub after_x : ℕ
  after_x = reverse (last B)

  abbrev pub after_y : ℕ
  after_y = reverse (last A)

  abbrev pub g : ℕ
  g = reverse (last path)

  -- ---- what is laid

  pub old_after_x : T (laid t after_x)
  old_after_x = subst T (sym (K.pair (last B))) (parted_old ps s z K D (last B) (omega (arith, last_in_lem D.b D.n, count_append (last B) A B)))

  pub old_after_y : T (laid t after_y)
  old_after_y = subst T (sym (K.pair (last A))) (parted_old ps s z K D (last A) (omega (arith, last_in_lem D.a D.m, count_append (last A) A B)))

  pub new_g : laid t g ≡ false
  new_g = K.pair (last path) ∙ D.fresh (last path) (last_in_lem D.d D.q)

  pub new_d : laid t D.d ≡ false
  unfolding count
  new_d = D.fresh D.d (omega (arith, is_self D.d))

  -- an older dart is not the path's
  pub old_not : (w : ℕ) → T (laid t w) → count w path + count w (back path) ≡ 0
  old_not w h = omega (arith, D.after w, flag_T (laid t w) h, flag_le (laid u w))

  pub old_stays : (w : ℕ) → T (laid t w) → flag (laid u w) ≡ 1
  old_stays w h = omega (arith, D.after w, flag_T (laid t w) h, old_not w h)

  -- ---- the ports

  pub leaves_g : leaves ps g ≡ D.y
  leaves_g = leaves_reverse ps (last path) ∙ trail_last ps D.x D.d D.q D.y D.way

  module _ (C : All (Closed ps) s.lands) where
    stretches : Trail ps (leaves ps D.a) A (leaves ps D.b) × Trail ps (leaves ps D.b) B (leaves ps D.a)
    stretches = trail_cut ps (leaves ps D.a) A D.b D.n (leaves ps D.a) (closed_turned ps s z D C)

    pub leaves_after_x : leaves ps after_x ≡ D.x
    leaves_after_x = leaves_reverse ps (last B) ∙ trail_last ps (leaves ps D.b) D.b D.n (leaves ps D.a) stretches.1 ∙ D.from_x

    pub leaves_after_y : leaves ps after_y ≡ D.y
    leaves_after_y = leaves_reverse ps (last A) ∙ trail_last ps (leaves ps D.a) D.a D.m (leaves ps D.b) stretches.0 ∙ D.from_y

  -- ---- the turns that stay

  pub turns_stay : (w k : ℕ) → w ≢ after_x → w ≢ after_y → count w path + count w (back path) ≡ 0 → get_or u w k ≡ get_or t w k
  unfolding split_turns count first
  turns_stay w k nx ny h =
      let back₁ : count (reverse w) (back path) ≡ count w path = count_back (reverse w) path ∙ ap (λ (v : ℕ). count v path) (reverse_reverse w) in
      ap (λ (v : List ℕ). get_or v w k) D.turns
      ∙ link_get (last B) path D.b (link (last A) (back path) D.a t) w k
      (omega (arith, is_not (reverse w) (last B) (λ e. nx (sym (reverse_reverse w) ∙ ap reverse e)), count_back w path))
      ∙ link_get (last A) (back path) D.a t w k
      (omega (arith, is_not (reverse w) (last A) (λ e. ny (sym (reverse_reverse w) ∙ ap reverse e)), back₁))

  -- then it leads to an older dart
  stays_old : (w : ℕ) → T (laid t w) → w ≢ after_x → w ≢ after_y → (v : ℕ) → get_or u w 0 ≡ v → laid t v ≡ false → ⊥
  stays_old w h nx ny v k f = subst T (ap (laid t) (sym (turns_stay w 0 nx ny (old_not w h)) ∙ k) ∙ f) (turn_laid ps s K w h)

  -- A turn changes at a port of the path only.
  pub turns_where : All (Closed ps) s.lands → (w : ℕ) → get_or u w missing ≢ get_or t w missing → 1 ≤ count (leaves ps w) (D.x ∷ map (enters ps) path)
  unfolding count
  turns_where C w ne =
      let x = D.x in
      let end = trail_end ps x D.d D.q D.y D.way in
      ⊎_elim (λ e. omega (arith, is_self x, ap (λ (v : ℕ). is v x) (ap (leaves ps) e ∙ leaves_after_x C)))
      (λ nx. ⊎_elim (λ e. omega (arith, end, ap (λ (v : ℕ). count v (map (enters ps) path)) (ap (leaves ps) e ∙ leaves_after_y C)))
      (λ ny. ⊎_elim (λ e. absurd (ne (turns_stay w missing (is_apart w after_x nx) (is_apart w after_y ny) e)))
      (λ p. ⊎_elim
      (λ e. omega (arith, count_map (enters ps) (reverse w) path, count_back w path, ap (λ (v : ℕ). count v (map (enters ps) path)) (enters_reverse ps w)))
      (λ c. ⊎_elim (λ e. omega (arith, is_self x, ap (λ (v : ℕ). is v x) e)) (λ i. omega (arith, inner_le ps D.d D.q (leaves ps w))) (trail_leaves ps x D.d D.q D.y w D.way c))
      (eq-zero-or-pos (count w path)))
      (eq-zero-or-pos (count w path + count w (back path)))) (is_cases w after_y)) (is_cases w after_x)

  -- ---- the turns at x and y

  old_land : Land t (A ++ B)
  old_land =
      subst (Land t) (sym D.turned.1.2)
      (land_turn t D.turned.0 D.turned.1.0 (subst (Land t) D.turned.1.1 (all_at (Land t) s.lands D.land D.below K.follow)))

  old_runs : Run t D.a D.m D.b × Run t D.b D.n D.a
  old_runs = run_cut t D.a D.m D.b D.n D.a old_land

  pub old_turn_x : get_or t after_x 0 ≡ D.a
  unfolding next
  old_turn_x = run_last t D.b D.n D.a old_runs.1

  pub old_turn_y : get_or t after_y 0 ≡ D.b
  unfolding next
  old_turn_y = run_last t D.a D.m D.b old_runs.0

  module _ (L : Sound z.turns z.lands) where
    -- the two lands that the path makes, from the path on
    new_lands_lem : Land u (path ++ B) × Land u (back path ++ A)
    unfolding split_lands
    new_lands_lem =
        let e = all_last (Land u) (set s.lands D.land (listed (path ++ B))) (listed (back path ++ A)) (subst (All (Land u)) D.lands L.follow) in
        (land_unlisted u (path ++ B) (all_set_at (Land u) s.lands D.land (listed (path ++ B)) D.below e.0), land_unlisted u (back path ++ A) e.1)

    pub new_kept : Land u (path ++ B)
    new_kept = new_lands_lem.0

    pub new_made : Land u (back path ++ A)
    new_made = new_lands_lem.1

    kept_runs : Run u D.d D.q D.b × Run u D.b D.n D.d
    kept_runs = run_cut u D.d D.q D.b D.n D.d new_kept

    pub turn_after_x : get_or u after_x 0 ≡ D.d
    unfolding next
    turn_after_x = run_last u D.b D.n D.d kept_runs.1

    pub turn_g : get_or u g 0 ≡ D.b
    unfolding next
    turn_g = run_last u D.d D.q D.b kept_runs.0

    made_turns : (next u (reverse D.d) ≡ D.a) × (next u (last A) ≡ g)
    unfolding first
    made_turns =
        let h = back_head D.d D.q in
        let r = run_cut u h.0 h.1.0 D.a D.m h.0 (subst (λ (v : List ℕ). Land u (v ++ A)) h.1.1 new_made) in (
          ap (next u) (sym (back_last D.d D.q) ∙ ap last h.1.1) ∙ run_last u h.0 h.1.0 D.a r.0,
          run_last u D.a D.m h.0 r.1 ∙ ap first (sym h.1.1) ∙ back_first D.d D.q,
        )

    pub turn_d : get_or u D.d 0 ≡ D.a
    unfolding next
    turn_d = ap (λ (v : ℕ). get_or u v 0) (sym (reverse_reverse D.d)) ∙ made_turns.0

    pub turn_after_y : get_or u after_y 0 ≡ g
    unfolding next
    turn_after_y = made_turns.1

    -- ---- what comes after an older dart

    pub turns_follow : (w : ℕ) → T (laid t w) → Follows t u w
    turns_follow w h =
        ⊎_elim (λ e. inr (
          ap (laid t) (ap (λ (v : ℕ). get_or u v 0) e ∙ turn_after_x) ∙ new_d,
          ap (λ (v : ℕ). get_or u v 0) (ap (λ (v : ℕ). get_or u v 0) e ∙ turn_after_x) ∙ turn_d ∙ sym old_turn_x ∙ ap (λ (v : ℕ). get_or t v 0) (sym e),
        ))
        (λ nx. ⊎_elim (λ e. inr (
          ap (laid t) (ap (λ (v : ℕ). get_or u v 0) e ∙ turn_after_y) ∙ new_g,
          ap (λ (v : ℕ). get_or u v 0) (ap (λ (v : ℕ). get_or u v 0) e ∙ turn_after_y) ∙ turn_g ∙ sym old_turn_y ∙ ap (λ (v : ℕ). get_or t v 0) (sym e),
        ))
        (λ ny.
        let e = turns_stay w 0 (is_apart w after_x nx) (is_apart w after_y ny) (old_not w h) in
        inl (subst (λ (v : ℕ). T (laid t v)) (sym e) (turn_laid ps s K w h), e)) (is_cases w after_y)) (is_cases w after_x)

    pub only_after_x : (w : ℕ) → T (laid t w) → get_or u w 0 ≡ D.d → w ≡ after_x
    only_after_x w h k =
        ⊎_elim (λ e. e)
        (λ nx. ⊎_elim (λ e. absurd (D.apart (sym D.way.0 ∙ ap (leaves ps) (sym k ∙ ap (λ (v : ℕ). get_or u v 0) e ∙ turn_after_y) ∙ leaves_g)))
        (λ ny. absurd (stays_old w h (is_apart w after_x nx) (is_apart w after_y ny) D.d k new_d)) (is_cases w after_y)) (is_cases w after_x)

    pub only_after_y : (w : ℕ) → T (laid t w) → get_or u w 0 ≡ g → w ≡ after_y
    only_after_y w h k =
        ⊎_elim (λ e. absurd (D.apart (sym D.way.0 ∙ ap (leaves ps) (sym (ap (λ (v : ℕ). get_or u v 0) e ∙ turn_after_x) ∙ k) ∙ leaves_g)))
        (λ nx. ⊎_elim (λ e. e)
        (λ ny. absurd (stays_old w h (is_apart w after_x nx) (is_apart w after_y ny) g k new_g)) (is_cases w after_y)) (is_cases w after_x)
