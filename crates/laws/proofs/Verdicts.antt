-- How rounds end (document 01, "Laying", each round): FLAT exactly when all channels in play are laid, STUCK exactly when some fragment has no admissible land, PARTIAL exactly when neither holds and the allowed paths are laid.
--   Next np ps on o o'          o leaves something to lay, and o' is the outcome of one path more; or it does not, and o' is o
--   OneWord w                   exactly one of the three
--   Says v o                    the word and the name of the outcome o are those of the judgement v
--   Used m n o                  of m paths to begin with and n more allowed, as many are laid as the outcome o has, and all of them where it says PARTIAL
--   AllLaid on s                all channels in play are laid
--   Admits np ps on s f i       land i of the state s visits all contacts of the fragment f
--   Barred np ps on s f         no land does; Once .. f: exactly one does
--   StuckAt np ps on s k        k is the lowest name of a fragment that no land is admissible for
--   Taken np ps on s f          f is the lowest-named fragment with exactly one admissible land or, where there is none such, the lowest-named
--   Going np ps on s            not all channels are laid, and every fragment has an admissible land
--   Means np ps on s v          what the judgement v of s says
--   Ended np ps on n o          all of document 01 about the word and the name of the outcome o, n paths being allowed
--   fs, pick                    of a state: its fragments, and the choice of a fragment
-- rounds_say: the word and the name are what the last state's judgement gives. laying_next, laying_next_state: n paths allowed against n + 1. laying_over, laying_stays, laying_end: nothing after the end. judge_means: what a judgement means. lay_grows, first_laid: what is laid stays laid. kept_fewer: there are fewer paths than channels.
-- laying_ended, laying_whole: how laying ends, and that as many paths as channels always end it. ended_laid_out, whole_laid_out: the same of every plate that is read.
-- Assumes nothing.
use mathlib.Core.Path.{◌≡◌, refl, subst, subst₂, sym, ◌∙◌, ap}
use mathlib.Core.Logic.{◌≢◌, ◌⊎◌, inl, inr, ⊎_elim, ◌↔◌}
use mathlib.Core.Bool.{Bool, not, true, false, cond, ◌||◌}
use mathlib.Core.List.{List, [], ◌∷◌, ◌++◌, map}
use Prim.Native.Nat.{ℕ, zero, suc, ◌+◌, ◌-◌, ◌*◌, ◌<◌, ◌≤◌}
use native.Mathlib.Nat.{not-suc-le-zero, zero-add, suc-add}
use native.Mathlib.Decide.{dec_lt}
use native.Mathlib.Omega.{arith}
use lib.Dec.{T, eqb, eqb→eq, T_not}
use lib.ListN.{length, get_or, length-replicate}
use Rattle.rules.specs.Lists.{from, keep, seek, at, concat}
use Rattle.rules.specs.Terms.{leaves, laid, visits}
use Rattle.rules.specs.Refusals.{given, Plate, read_plate}
use Rattle.rules.specs.Laying.{State, Fragment, Choice, Verdict, flat, stuck, ready, Word, FLAT, STUCK, PARTIAL, Outcome, without, single, lowest, chosen, stuck_or, fragment_at, contacts_of, choice_of, choices, lay, all_laid, judge, rounds, cycle, start, first_channel, laying, without_cap, whole_plate, laid_out}
use Rattle.laws.proofs.Tests.{cond_cases, or_T, not_or, not_not}
use Rattle.laws.proofs.Counts.{flag, flag_T, T_flag, flag_le, is_self, is_cases, count, count_head, pigeon}
use Rattle.laws.proofs.Lists.{All, all_T, not_all, count_from, seek_first}
use Rattle.laws.proofs.Sets.{at_lt}
use Rattle.laws.proofs.Runs.{Land, count_listed}
use Rattle.laws.proofs.Links.{laid_lt}
use Rattle.laws.proofs.Sound.{count_all, all_at}
use Rattle.laws.proofs.Choices.{Open, laid_now, Sensible, rounds_keep}
use Rattle.laws.proofs.Reaches.{Wide, wide_of}
use Rattle.laws.proofs.Rounds.{Layable, Kept, land_head, kept_land, lay_laid, kept_lay}
use Rattle.laws.proofs.FirstCycle.{kept_start, first_play, kept_laying}
use Rattle.laws.proofs.Reading.{Accepted, accepted, layable, channel_play}
use Rattle.laws.proofs.Counting.{count_concat, length_concat, stuck_flat, partial_flat, stuck_partial, rounds_cases, lay_paths, rounds_partial}
use Rattle.laws.proofs.FragmentMeaning.{In, Rising, IsFragment, Contact, fragments_of, names_of, fragment_play, fragment_some, fragment_iff, fragments_rise, admissible_rise, admitted_iff}

-- ---- the words differ

pub flat_stuck : FLAT ≢ STUCK
flat_stuck e = stuck_flat (sym e)

pub flat_partial : FLAT ≢ PARTIAL
flat_partial e = partial_flat (sym e)

-- exactly one of the three
abbrev pub OneWord : Word → Type 0
OneWord w =
    ((w ≡ FLAT) × (w ≢ STUCK) × (w ≢ PARTIAL))
    ⊎ (((w ≢ FLAT) × (w ≡ STUCK) × (w ≢ PARTIAL)) ⊎ ((w ≢ FLAT) × (w ≢ STUCK) × (w ≡ PARTIAL)))

pub one_word : (w : Word) → OneWord w
one_word FLAT = inl (refl, flat_stuck, flat_partial)
one_word STUCK = inr (inl ((λ e. flat_stuck (sym e)), refl, stuck_partial))
one_word PARTIAL = inr (inr ((λ e. flat_partial (sym e)), (λ e. stuck_partial (sym e)), refl))

-- ---- a round, by its judgement

abbrev Chosen : List Choice → Verdict → Type 0
Chosen cs flat = Unit {0}
Chosen cs (stuck k) = Unit {0}
Chosen cs (ready c) = c ≡ chosen cs

-- what a round says of the state s, its verdict being given: further is what comes of laying a path
abbrev Spoken : State → (Choice → Outcome) → Verdict → Outcome
Spoken s further v = elim v as (λ w. Outcome) [
  | flat ↦ record { word = FLAT; name = 0; state = s }
  | stuck k ↦ record { word = STUCK; name = k; state = s }
  | ready c ↦ further c
]

-- the word and the name that a judgement gives
abbrev pub Says : Verdict → Outcome → Type 0
Says flat o = (o.word ≡ FLAT) × (o.name ≡ 0)
Says (stuck k) o = (o.word ≡ STUCK) × (o.name ≡ k)
Says (ready c) o = (o.word ≡ PARTIAL) × (o.name ≡ 0)

-- m paths and at most n more are laid, exactly n more where PARTIAL is said
abbrev pub Used : ℕ → ℕ → Outcome → Type 0
Used m n o = (length o.state.paths ≤ m + n) × ((o.word ≡ PARTIAL) → length o.state.paths ≡ m + n)

module _ (np : ℕ) (ps : List ℕ) (on : List Bool) where
  rounds_zero : (s : State) → rounds np ps on 0 s ≡ Spoken s (λ c. record { word = PARTIAL; name = 0; state = s }) (judge np ps on s)
  unfolding rounds
  rounds_zero s = refl

  rounds_suc : (n : ℕ) (s : State) → rounds np ps on (suc n) s ≡ Spoken s (λ c. rounds np ps on n (lay np ps on s c)) (judge np ps on s)
  unfolding rounds
  rounds_suc n s = refl

  pub rounds_at_flat : (n : ℕ) (s : State) → judge np ps on s ≡ flat → rounds np ps on n s ≡ record { word = FLAT; name = 0; state = s }
  rounds_at_flat zero s e = rounds_zero s ∙ ap (Spoken s (λ c. record { word = PARTIAL; name = 0; state = s })) e
  rounds_at_flat (suc n) s e = rounds_suc n s ∙ ap (Spoken s (λ c. rounds np ps on n (lay np ps on s c))) e

  pub rounds_at_stuck : (n : ℕ) (s : State) (k : ℕ) → judge np ps on s ≡ stuck k → rounds np ps on n s ≡ record { word = STUCK; name = k; state = s }
  rounds_at_stuck zero s k e = rounds_zero s ∙ ap (Spoken s (λ c. record { word = PARTIAL; name = 0; state = s })) e
  rounds_at_stuck (suc n) s k e = rounds_suc n s ∙ ap (Spoken s (λ c. rounds np ps on n (lay np ps on s c))) e

  pub rounds_at_last : (s : State) (c : Choice) → judge np ps on s ≡ ready c → rounds np ps on 0 s ≡ record { word = PARTIAL; name = 0; state = s }
  rounds_at_last s c e = rounds_zero s ∙ ap (Spoken s (λ c. record { word = PARTIAL; name = 0; state = s })) e

  pub rounds_at_ready : (n : ℕ) (s : State) (c : Choice) → judge np ps on s ≡ ready c → rounds np ps on (suc n) s ≡ rounds np ps on n (lay np ps on s c)
  rounds_at_ready n s c e = rounds_suc n s ∙ ap (Spoken s (λ c. rounds np ps on n (lay np ps on s c))) e

  -- a path is laid for the choice that is made
  pub judge_chosen : (s : State) (c : Choice) → judge np ps on s ≡ ready c → c ≡ chosen (choices np ps on s)
  unfolding judge stuck_or
  judge_chosen s c e = subst (Chosen (choices np ps on s)) e made
    where
      either : (cs : List Choice) → Chosen (choices np ps on s) (stuck_or cs (ready (chosen (choices np ps on s))))
      either [] = refl
      either (x ∷ cs) = tt

      made : Chosen (choices np ps on s) (judge np ps on s)
      made = cond_cases (Chosen (choices np ps on s)) (all_laid np ps on s.turns) (λ t. tt) (λ t. either (keep without (choices np ps on s)))

  -- ---- one path more

  -- n paths leave something to lay, and the next outcome is that of one path more; or they do not, and it is the same
  abbrev pub Next : Outcome → Outcome → Type 0
  Next o o' =
      ((o.word ≡ PARTIAL) × (o' ≡ rounds np ps on 0 (lay np ps on o.state (chosen (choices np ps on o.state)))))
      ⊎ ((o.word ≢ PARTIAL) × (o' ≡ o))

  -- where a round says FLAT or STUCK, more paths allowed change nothing
  next_over : (n : ℕ) (s : State) (o : Outcome) → o.word ≢ PARTIAL → rounds np ps on n s ≡ o → rounds np ps on (suc n) s ≡ o → Next (rounds np ps on n s) (rounds np ps on (suc n) s)
  next_over n s o h e f = subst₂ Next (sym e) (sym f) (inr (h, refl))

  pub rounds_next : (n : ℕ) (s : State) → Next (rounds np ps on n s) (rounds np ps on (suc n) s)
  rounds_next zero s = go (judge np ps on s) refl
    where
      go : (v : Verdict) → judge np ps on s ≡ v → Next (rounds np ps on 0 s) (rounds np ps on 1 s)
      go flat e = next_over 0 s _ flat_partial (rounds_at_flat 0 s e) (rounds_at_flat 1 s e)
      go (stuck k) e = next_over 0 s _ stuck_partial (rounds_at_stuck 0 s k e) (rounds_at_stuck 1 s k e)
      go (ready c) e =
          subst₂ Next (sym (rounds_at_last s c e)) (sym (rounds_at_ready 0 s c e)) (inl (refl, ap (λ d. rounds np ps on 0 (lay np ps on s d)) (judge_chosen s c e)))
  rounds_next (suc n) s = go (judge np ps on s) refl (λ c. rounds_next n (lay np ps on s c))
    where
      go : (v : Verdict) → judge np ps on s ≡ v → ((c : Choice) → Next (rounds np ps on n (lay np ps on s c)) (rounds np ps on (suc n) (lay np ps on s c)))
          → Next (rounds np ps on (suc n) s) (rounds np ps on (suc (suc n)) s)
      go flat e h = next_over (suc n) s _ flat_partial (rounds_at_flat (suc n) s e) (rounds_at_flat (suc (suc n)) s e)
      go (stuck k) e h = next_over (suc n) s _ stuck_partial (rounds_at_stuck (suc n) s k e) (rounds_at_stuck (suc (suc n)) s k e)
      go (ready c) e h = subst₂ Next (sym (rounds_at_ready n s c e)) (sym (rounds_at_ready (suc n) s c e)) (h c)

  pub laying_next : (n : ℕ) → Next (laying np ps on n) (laying np ps on (suc n))
  unfolding laying
  laying_next n = rounds_next n (start np ps on (first_channel np ps on))

  -- ---- nothing after the end

  -- where n paths leave nothing to lay, one more allowed changes nothing
  pub laying_over : (n : ℕ) → (laying np ps on n).word ≢ PARTIAL → laying np ps on (suc n) ≡ laying np ps on n
  laying_over n w = ⊎_elim (λ h. absurd (w h.0)) (λ h. h.1) (laying_next n)

  -- nor does any number more
  pub laying_stays : (n m : ℕ) → n ≤ m → (laying np ps on n).word ≢ PARTIAL → laying np ps on m ≡ laying np ps on n
  laying_stays n m h w = let e : m ≡ (m - n) + n = omega arith in ap (laying np ps on) e ∙ more (m - n)
    where
      more : (k : ℕ) → laying np ps on (k + n) ≡ laying np ps on n
      more zero = ap (laying np ps on) (zero-add n)
      more (suc k) = ap (laying np ps on) (suc-add k n) ∙ laying_over (k + n) (subst (λ (o : Outcome). o.word ≢ PARTIAL) (sym (more k)) w) ∙ more k

  -- so there is one end
  pub laying_end : (n m : ℕ) → (laying np ps on n).word ≢ PARTIAL → (laying np ps on m).word ≢ PARTIAL → laying np ps on m ≡ laying np ps on n
  laying_end n m w v = go (dec_lt m n)
    where
      go : Dec (m < n) → laying np ps on m ≡ laying np ps on n
      go (yes l) = sym (laying_stays m n (omega arith) v)
      go (no l) = laying_stays n m (omega arith) w

  -- Whatever the number of paths and the state to begin with: the word and the name are what the last state's judgement says.
  pub rounds_say : (n : ℕ) (s : State) → Says (judge np ps on (rounds np ps on n s).state) (rounds np ps on n s)
  rounds_say =
      rounds_cases np ps on (λ n s o. Says (judge np ps on o.state) o)
      (λ n s e. subst (λ (v : Verdict). Says v (record { word = FLAT; name = 0; state = s })) (sym e) (refl, refl))
      (λ n s k e. subst (λ (v : Verdict). Says v (record { word = STUCK; name = k; state = s })) (sym e) (refl, refl))
      (λ s c e. subst (λ (v : Verdict). Says v (record { word = PARTIAL; name = 0; state = s })) (sym e) (refl, refl)) (λ n s c e o h. h)

  -- PARTIAL is said where a path could still be laid
  pub partial_ready : (n : ℕ) (s : State) → (rounds np ps on n s).word ≡ PARTIAL → (c : Choice) × (judge np ps on (rounds np ps on n s).state ≡ ready c)
  partial_ready n s e = go (judge np ps on (rounds np ps on n s).state) refl (rounds_say n s)
    where
      go : (v : Verdict) → judge np ps on (rounds np ps on n s).state ≡ v → Says v (rounds np ps on n s) → (c : Choice) × (judge np ps on (rounds np ps on n s).state ≡ ready c)
      go flat q h = absurd (flat_partial (sym h.0 ∙ e))
      go (stuck k) q h = absurd (stuck_partial (sym h.0 ∙ e))
      go (ready c) q h = (c, q)

-- ---- the first that is kept, of a list whose keys rise

-- of l the test f keeps none, or first an element that no other one comes before that passes, too
abbrev FirstKept : {A : Type 0} → (A → ℕ) → (A → Bool) → List A → List A → Type 0
FirstKept {A} key f l [] = (y : A) → In y l → T (not (f y))
FirstKept {A} key f l (x ∷ m) = In x l × T (f x) × ((y : A) → In y l → key y < key x → T (not (f y)))

key_above : {A : Type 0} (key : A → ℕ) (n : ℕ) (m : List A) → All (λ b. n < b) (map key m) → (y : A) → In y m → n < key y
key_above key n [] h y i = absurd i
key_above {A} key n (x ∷ m) h y i = ⊎_elim (λ e. subst (λ (z : A). n < key z) (sym e) h.0) (λ j. key_above key n m h.1 y j) i

first_kept : {A : Type 0} (key : A → ℕ) (f : A → Bool) (l : List A) → Rising (map key l) → FirstKept key f l (keep f l)
unfolding keep
first_kept key f [] r = λ y h. absurd h
first_kept {A} key f (a ∷ l) r =
    cond_cases (FirstKept key f (a ∷ l)) (f a)
    (λ t. (inl refl, t, (λ y h k. ⊎_elim (λ e. absurd (not-suc-le-zero {n = 0} (omega (arith, ap key e)))) (λ i. absurd (not-suc-le-zero {n = 0} (omega (arith, key_above key (key a) l r.0 y i)))) h)))
    (λ t. later t (keep f l) (first_kept key f l r.1))
  where
    later : T (not (f a)) → (m : List A) → FirstKept key f l m → FirstKept key f (a ∷ l) m
    later t [] h = λ y i. ⊎_elim (λ e. subst (λ (z : A). T (not (f z))) (sym e) t) (h y) i
    later t (x ∷ m) h = (inr h.0, h.1, (λ y i k. ⊎_elim (λ e. subst (λ (z : A). T (not (f z))) (sym e) t) (λ j. h.2 y j k) i))

keep_map : {A B : Type 0} (f : B → Bool) (g : A → B) (l : List A) → keep f (map g l) ≡ map g (keep (λ a. f (g a)) l)
unfolding keep
keep_map f g [] = refl
keep_map {A} {B} f g (a ∷ l) = go (f (g a)) (keep_map f g l)
  where
    go : (b : Bool) → keep f (map g l) ≡ map g (keep (λ a. f (g a)) l) → cond b (g a ∷ keep f (map g l)) (keep f (map g l)) ≡ map g (cond b (a ∷ keep (λ a. f (g a)) l) (keep (λ a. f (g a)) l))
    go true e = ap (λ (m : List B). g a ∷ m) e
    go false e = e

-- ---- lists of one number

pub count_some : (x : ℕ) (l : List ℕ) → 1 ≤ count x l → 1 ≤ length l
unfolding count
count_some x [] h = h
count_some x (y ∷ l) h = omega arith

one_of : (l : List ℕ) → T (eqb (length l) 1) → (i : ℕ) × (1 ≤ count i l) × ((j : ℕ) → 1 ≤ count j l → j ≡ i)
unfolding count
one_of [] t = absurd t
one_of (a ∷ []) t = (a, count_head a [], (λ j h. ⊎_elim (λ e. e) (λ n. absurd (not-suc-le-zero {n = 0} (omega arith))) (is_cases j a)))
one_of (a ∷ b ∷ l) t = absurd (not-suc-le-zero {n = 0} (omega (arith, eqb→eq (length (a ∷ b ∷ l)) 1 t)))

of_one : (l : List ℕ) → Rising l → (i : ℕ) → 1 ≤ count i l → ((j : ℕ) → 1 ≤ count j l → j ≡ i) → T (eqb (length l) 1)
unfolding count
of_one [] r i h u = absurd (not-suc-le-zero h)
of_one (a ∷ []) r i h u = tt
of_one (a ∷ b ∷ l) r i h u = absurd (not-suc-le-zero {n = 0} (omega (arith, r.0.0, u a (omega (arith, is_self a)), u b (omega (arith, is_self b)))))

-- ---- what a judgement means

-- all channels in play are laid
abbrev pub AllLaid : List Bool → State → Type 0
AllLaid on s = (k : ℕ) → T (at on k) → T (laid s.turns (2 * k))

-- land i is admissible for f: it visits all contacts
abbrev pub Admits : ℕ → List ℕ → List Bool → State → Fragment → ℕ → Type 0
Admits np ps on s f i = (i < length s.lands) × ((p : ℕ) → Contact np ps on s f p → T (visits ps (get_or s.lands i []) p))

-- f has no admissible land
abbrev pub Barred : ℕ → List ℕ → List Bool → State → Fragment → Type 0
Barred np ps on s f = (i : ℕ) → Admits np ps on s f i → ⊥

-- f has exactly one
abbrev pub Once : ℕ → List ℕ → List Bool → State → Fragment → Type 0
Once np ps on s f = (i : ℕ) × Admits np ps on s f i × ((j : ℕ) → Admits np ps on s f j → j ≡ i)

-- k is the lowest name of a fragment without admissible land
abbrev pub StuckAt : ℕ → List ℕ → List Bool → State → ℕ → Type 0
StuckAt np ps on s k =
    (f : Fragment) × IsFragment np ps on s f × (f.name ≡ k) × Barred np ps on s f
    × ((g : Fragment) → IsFragment np ps on s g → g.name < k → (i : ℕ) × Admits np ps on s g i)

-- f is the lowest-named fragment with exactly one admissible land; or there is none such, and it is the lowest-named
abbrev pub Taken : ℕ → List ℕ → List Bool → State → Fragment → Type 0
Taken np ps on s f =
    IsFragment np ps on s f
    × ((Once np ps on s f × ((g : Fragment) → IsFragment np ps on s g → g.name < f.name → Once np ps on s g → ⊥))
    ⊎ (((g : Fragment) → IsFragment np ps on s g → Once np ps on s g → ⊥) × ((g : Fragment) → IsFragment np ps on s g → f.name ≤ g.name)))

-- a path can be laid: not all channels are laid, and every fragment has an admissible land
abbrev pub Going : ℕ → List ℕ → List Bool → State → Type 0
Going np ps on s = (AllLaid on s → ⊥) × ((f : Fragment) → IsFragment np ps on s f → (i : ℕ) × Admits np ps on s f i)

-- what the judgement v of the state s means; c is the choice of the fragment that is taken
abbrev pub Means : ℕ → List ℕ → List Bool → State → Verdict → Type 0
Means np ps on s flat = AllLaid on s
Means np ps on s (stuck k) = StuckAt np ps on s k
Means np ps on s (ready c) = Going np ps on s × ((f : Fragment) × (c ≡ choice_of np ps on (laid_now np ps s) s.lands f) × Taken np ps on s f)

module _ (np : ℕ) (ps : List ℕ) (on : List Bool) (G : Layable np ps on) (s : State) (K : Kept ps on s) where
  abbrev fs : List Fragment
  fs = fragments_of np ps on s

  abbrev pick : Fragment → Choice
  pick f = choice_of np ps on (laid_now np ps s) s.lands f

  -- the numbers of a choice's lands are those of the admissible ones
  pub fits_iff : (f : Fragment) → IsFragment np ps on s f → (i : ℕ) → (1 ≤ count i (pick f).fits) ↔ Admits np ps on s f i
  unfolding choice_of
  fits_iff f h i = admitted_iff np ps on G s K f h i

  without_barred : (f : Fragment) → IsFragment np ps on s f → T (without (pick f)) → Barred np ps on s f
  unfolding without
  without_barred f h t i a = not-suc-le-zero {n = 0} (omega (arith, eqb→eq (length (pick f).fits) 0 t, count_some i (pick f).fits ((fits_iff f h i).1 a)))

  not_without : (f : Fragment) → IsFragment np ps on s f → T (not (without (pick f))) → (i : ℕ) × Admits np ps on s f i
  unfolding without
  not_without f h t = go (pick f).fits refl
    where
      go : (ms : List ℕ) → (pick f).fits ≡ ms → (i : ℕ) × Admits np ps on s f i
      go [] e = absurd (T_not (eqb (length (pick f).fits) 0) t (subst (λ (ms : List ℕ). T (eqb (length ms) 0)) (sym e) tt))
      go (m ∷ ms) e = (m, (fits_iff f h m).0 (subst (λ (l : List ℕ). 1 ≤ count m l) (sym e) (count_head m ms)))

  pub fits_rise : (f : Fragment) → Rising (pick f).fits
  unfolding choice_of
  fits_rise f = admissible_rise ps (contacts_of np ps on (laid_now np ps s) f) 0 s.lands

  pub single_iff : (f : Fragment) → IsFragment np ps on s f → T (single (pick f)) ↔ Once np ps on s f
  unfolding single
  single_iff f h = (
    (λ t. let r = one_of (pick f).fits t in (r.0, (fits_iff f h r.0).0 r.1, (λ j a. r.2 j ((fits_iff f h j).1 a)))),
    (λ o. of_one (pick f).fits (fits_rise f) o.0 ((fits_iff f h o.0).1 o.1) (λ j k. o.2 j ((fits_iff f h j).0 k))),
  )

  -- ---- the lowest-named

  chosen_taken : 1 ≤ length fs → (f : Fragment) × (chosen (map pick fs) ≡ pick f) × Taken np ps on s f
  unfolding chosen lowest
  chosen_taken some = go (keep (λ f. single (pick f)) fs) refl (first_kept (λ f. f.name) (λ f. single (pick f)) fs (fragments_rise np ps on G s K))
    where
      is_in : (f : Fragment) → In f fs → IsFragment np ps on s f
      is_in f = (fragment_iff np ps on G s K f).0

      in_is : (f : Fragment) → IsFragment np ps on s f → In f fs
      in_is f = (fragment_iff np ps on G s K f).1

      none : (l : List Fragment) → 1 ≤ length l → Rising (names_of l) → (f : Fragment) × (lowest (map pick l) ≡ pick f) × In f l × ((g : Fragment) → In g l → f.name ≤ g.name)
      none [] h r = absurd (not-suc-le-zero h)
      none (x ∷ l) h r = (x, refl, inl refl, (λ g i. ⊎_elim (λ e. omega (arith, ap (λ (z : Fragment). z.name) e)) (λ j. omega (arith, key_above (λ f. f.name) x.name l r.0 g j)) i))

      first : (m : List Fragment) → keep (λ f. single (pick f)) fs ≡ m → chosen (map pick fs) ≡ lowest (map pick m ++ map pick fs)
      first m e = ap (λ (l : List Choice). lowest (l ++ map pick fs)) (keep_map single pick fs ∙ ap (map pick) e)

      go : (m : List Fragment) → keep (λ f. single (pick f)) fs ≡ m → FirstKept (λ f. f.name) (λ f. single (pick f)) fs m → (f : Fragment) × (chosen (map pick fs) ≡ pick f) × Taken np ps on s f
      go [] e k =
          let f = none fs some (fragments_rise np ps on G s K) in
          (f.0, first [] e ∙ f.1, (is_in f.0 f.2, inr ((λ g h u. T_not (single (pick g)) (k g (in_is g h)) ((single_iff g h).1 u)), (λ g h. f.3 g (in_is g h)))))
      go (x ∷ m) e k =
          let h = is_in x k.0 in
          (x, first (x ∷ m) e, (h, inl ((single_iff x h).0 k.1, (λ g i l u. T_not (single (pick g)) (k.2 g (in_is g i) l) ((single_iff g i).1 u)))))

  -- ---- the judgement

  -- where not all channels are laid, one in play is not
  some_unlaid : T (not (all_laid np ps on s.turns)) → (k : ℕ) × T (at on k) × T (not (laid s.turns (2 * k)))
  unfolding all_laid
  some_unlaid h =
      let r = not_all (λ k. laid s.turns (2 * k) || not (at on k)) (from 0 (length on)) h in
      let u = not_or (laid s.turns (2 * r.0)) (not (at on r.0)) r.2 in
      (r.0, not_not (at on r.0) u.1, u.0)

  all_laid_lem : T (all_laid np ps on s.turns) → AllLaid on s
  unfolding all_laid
  all_laid_lem t k o =
      ⊎_elim (λ l. l) (λ n. absurd (T_not (at on k) n o))
      (or_T (laid s.turns (2 * k)) (not (at on k)) (all_T (λ k. laid s.turns (2 * k) || not (at on k)) (from 0 (length on)) k t (count_from k 0 (length on) (omega arith) (omega (arith, at_lt on k o)))))

  -- What the judgement of a state means.
  pub judge_means : Means np ps on s (judge np ps on s)
  unfolding judge choices stuck_or choice_of
  judge_means =
      cond_cases (Means np ps on s) (all_laid np ps on s.turns) all_laid_lem
      (λ t. subst (λ (cs : List Choice). Means np ps on s (stuck_or cs (ready (chosen (map pick fs))))) (sym (keep_map without pick fs))
      (go t (keep (λ f. without (pick f)) fs) (first_kept (λ f. f.name) (λ f. without (pick f)) fs (fragments_rise np ps on G s K))))
    where
      is_in : (f : Fragment) → In f fs → IsFragment np ps on s f
      is_in f = (fragment_iff np ps on G s K f).0

      in_is : (f : Fragment) → IsFragment np ps on s f → In f fs
      in_is f = (fragment_iff np ps on G s K f).1

      filled : (l : List Fragment) (f : Fragment) → In f l → 1 ≤ length l
      filled [] f h = absurd h
      filled (x ∷ l) f h = omega arith

      go : T (not (all_laid np ps on s.turns)) → (m : List Fragment) → FirstKept (λ f. f.name) (λ f. without (pick f)) fs m → Means np ps on s (stuck_or (map pick m) (ready (chosen (map pick fs))))
      go t [] k =
          let u = some_unlaid t in
          let f = fragment_some np ps on G s K u.0 u.1 u.2 in
          (((λ a. T_not (laid s.turns (2 * u.0)) u.2 (a u.0 u.1)), (λ g h. not_without g h (k g (in_is g h)))), chosen_taken (filled fs f.0 f.1))
      go t (x ∷ m) k =
          let h = is_in x k.0 in
          (x, h, refl, without_barred x h k.1, (λ g i l. not_without g i (k.2 g (in_is g i) l)))

-- ---- how many paths

module _ (np : ℕ) (ps : List ℕ) (on : List Bool) where
  -- at most n paths are laid, and where PARTIAL is said exactly n
  pub rounds_used : (n : ℕ) (s : State) → Used (length s.paths) n (rounds np ps on n s)
  rounds_used n s = (
    rounds_cases np ps on (λ n s o. length o.state.paths ≤ length s.paths + n) (λ n s e. omega arith) (λ n s k e. omega arith) (λ s c e. omega arith)
        (λ n s c e o h. omega (arith, lay_paths np ps on s c)) n s,
    rounds_partial np ps on n s,
  )

  -- the rounds stop where they began, if no path is allowed
  pub rounds_stay : (s : State) → (rounds np ps on 0 s).state ≡ s
  rounds_stay s = go (judge np ps on s) refl
    where
      go : (v : Verdict) → judge np ps on s ≡ v → (rounds np ps on 0 s).state ≡ s
      go flat e = ap (λ (o : Outcome). o.state) (rounds_at_flat np ps on 0 s e)
      go (stuck k) e = ap (λ (o : Outcome). o.state) (rounds_at_stuck np ps on 0 s k e)
      go (ready c) e = ap (λ (o : Outcome). o.state) (rounds_at_last np ps on s c e)

  -- the state after one path more allowed: a path more is laid, for the choice that is made, or nothing changes
  pub laying_next_state : (n : ℕ)
      → (((laying np ps on n).word ≡ PARTIAL) × ((laying np ps on (suc n)).state ≡ lay np ps on (laying np ps on n).state (chosen (choices np ps on (laying np ps on n).state))))
      ⊎ (((laying np ps on n).word ≢ PARTIAL) × ((laying np ps on (suc n)).state ≡ (laying np ps on n).state))
  laying_next_state n =
      ⊎_elim (λ h. inl (h.0, ap (λ (o : Outcome). o.state) h.1 ∙ rounds_stay (lay np ps on (laying np ps on n).state (chosen (choices np ps on (laying np ps on n).state)))))
      (λ h. inr (h.0, ap (λ (o : Outcome). o.state) h.1)) (laying_next np ps on n)

-- ---- what is laid stays laid

more_flag : (b c : Bool) (m : ℕ) → flag c ≡ flag b + m → T b → T c
more_flag b c m e t = T_flag c (omega (arith, flag_T b t))

module _ (np : ℕ) (ps : List ℕ) (on : List Bool) (G : Layable np ps on) where
  pub lay_grows : (s : State) → Kept ps on s → (c : Choice) → Sensible np ps on s c → Open c → (z : ℕ) → T (laid s.turns z) → T (laid (lay np ps on s c).turns z)
  unfolding lay choice_of
  lay_grows s K c h p z t =
      subst (λ (e : Choice). Open e → T (laid (lay np ps on s e).turns z)) (sym h.1)
      (λ fit. more_flag (laid s.turns z) (laid (lay np ps on s (choice_of np ps on (laid_now np ps s) s.lands (fragment_at np ps on (laid_now np ps s) h.0))).turns z) _ (lay_laid np ps on G s K h.0 h.2 h.3 fit z) t) p

  -- the first channel is laid in every state
  pub start_first : (c : ℕ) → Wide ps on → T (at on c) → T (laid (start np ps on c).turns (2 * c))
  unfolding start cycle count_all count
  start_first c many o =
      let K = kept_start np ps on G many c o in
      T_flag (laid (start np ps on c).turns (2 * c)) (omega (arith, K.sound.cover (2 * c), count_listed (2 * c) (cycle np ps on c), is_self (2 * c)))

  pub first_laid : Wide ps on → (c : ℕ) → T (at on c) → (n : ℕ) → T (laid (laying np ps on n).state.turns (2 * first_channel np ps on))
  unfolding laying
  first_laid many c o n =
      let f = first_channel np ps on in
      let play = first_play np ps on c o in
      (rounds_keep np ps on (λ s. Kept ps on s × T (laid s.turns (2 * f)))
      (λ s h e i j. (kept_lay np ps on G s h.0 e i j, lay_grows s h.0 e i j (2 * f) h.1))
      n (start np ps on f) (kept_start np ps on G many f play, start_first f many play)).1

  -- ---- fewer paths than channels

  pub kept_fewer : (s : State) → Kept ps on s → length s.paths < length on
  kept_fewer s K =
      let P = K.ports in
      let d = land_head s.turns (get_or s.lands 0 []) (all_at (Land s.turns) s.lands 0 K.some K.sound.follow) in
      let p = P.1.some d.0 (kept_land np ps on G s K 0 d.0 d.1) in
      let few : length (concat s.lands) ≤ length s.turns =
      pigeon (length s.turns) (concat s.lands)
      (λ z h. laid_lt s.turns z (T_flag (laid s.turns z) (omega (arith, count_concat z s.lands, K.sound.cover z))))
      (λ z. omega (arith, count_concat z s.lands, K.sound.cover z, flag_le (laid s.turns z))) in
      omega (arith, P.2, K.number, length_concat s.lands, K.long, G.size2, count_some (leaves ps d.0) P.0 (omega arith))

-- ---- how laying ends

pub record Ended (np : ℕ) (ps : List ℕ) (on : List Bool) (n : ℕ) (o : Outcome) : Type 0 where
  -- FLAT exactly when all channels in play are laid
  pub flat : (o.word ≡ FLAT) ↔ AllLaid on o.state
  -- STUCK exactly when some fragment has no admissible land
  pub stuck : (o.word ≡ STUCK) ↔ ((f : Fragment) × IsFragment np ps on o.state f × Barred np ps on o.state f)
  -- PARTIAL exactly when neither holds and the allowed paths are laid
  pub partial : (o.word ≡ PARTIAL) ↔ ((AllLaid on o.state → ⊥) × ((f : Fragment) → IsFragment np ps on o.state f → Barred np ps on o.state f → ⊥) × (length o.state.paths ≡ n))
  -- exactly one of the three
  pub word : OneWord o.word
  -- the name for STUCK: the lowest of a fragment without admissible land, beyond the first channel
  pub lowest : o.word ≡ STUCK → StuckAt np ps on o.state o.name
  pub beyond : o.word ≡ STUCK → first_channel np ps on < o.name
  -- the name is 0 otherwise
  pub nameless : o.word ≢ STUCK → o.name ≡ 0
  -- never more paths than allowed
  pub most : length o.state.paths ≤ n

module _ (np : ℕ) (ps : List ℕ) (on : List Bool) (G : Layable np ps on) (n : ℕ) (o : Outcome) (K : Kept ps on o.state)
    (U : Used 0 n o) (F : T (laid o.state.turns (2 * first_channel np ps on))) where
  -- where all channels are laid there is no fragment
  laid_none : AllLaid on o.state → (f : Fragment) → IsFragment np ps on o.state f → ⊥
  laid_none a f h = let u = fragment_play np ps on G o.state K f h in T_not (laid o.state.turns (2 * f.name)) u.1 (a f.name u.0)

  -- a channel in play that is not laid lies beyond the first
  unlaid_beyond : (k : ℕ) → T (at on k) → T (not (laid o.state.turns (2 * k))) → first_channel np ps on < k
  unfolding first_channel
  unlaid_beyond k p u = go (dec_lt (seek (at on) 0 (length on)) k)
    where
      first : ℕ
      first = seek (at on) 0 (length on)

      go : Dec (first < k) → first < k
      go (yes l) = l
      go (no l) =
          let ne : k ≢ first = (λ e. T_not (laid o.state.turns (2 * k)) u (subst (λ (z : ℕ). T (laid o.state.turns (2 * z))) (sym e) F)) in
          absurd (T_not (at on k) (seek_first (at on) 0 (length on) k (omega arith) (omega arith)) p)

  ended_of : (v : Verdict) → Means np ps on o.state v → Says v o → Ended np ps on n o
  ended_of flat m h = record {
    flat = ((λ e. m), (λ a. h.0));
    stuck = ((λ e. absurd (flat_stuck (sym h.0 ∙ e))), (λ f. absurd (laid_none m f.0 f.1)));
    partial = ((λ e. absurd (flat_partial (sym h.0 ∙ e))), (λ a. absurd (a.0 m)));
    word = one_word o.word;
    lowest = λ e. absurd (flat_stuck (sym h.0 ∙ e));
    beyond = λ e. absurd (flat_stuck (sym h.0 ∙ e));
    nameless = λ e. h.1;
    most = omega (arith, U.0);
  }
  ended_of (stuck k) m h = record {
    flat = ((λ e. absurd (flat_stuck (sym e ∙ h.0))), (λ a. absurd (laid_none a m.0 m.1)));
    stuck = ((λ e. (m.0, m.1, m.3)), (λ f. h.0));
    partial = ((λ e. absurd (stuck_partial (sym h.0 ∙ e))), (λ a. absurd (a.1 m.0 m.1 m.3)));
    word = one_word o.word;
    lowest = λ e. subst (StuckAt np ps on o.state) (sym h.1) m;
    beyond = λ e. let u = fragment_play np ps on G o.state K m.0 m.1 in subst (λ (z : ℕ). first_channel np ps on < z) (m.2 ∙ sym h.1) (unlaid_beyond m.0.name u.0 u.1);
    nameless = λ e. absurd (e h.0);
    most = omega (arith, U.0);
  }
  ended_of (ready c) m h = record {
    flat = ((λ e. absurd (flat_partial (sym e ∙ h.0))), (λ a. absurd (m.0.0 a)));
    stuck = ((λ e. absurd (stuck_partial (sym e ∙ h.0))), (λ f. let a = m.0.1 f.0 f.1 in absurd (f.2 a.0 a.1)));
    partial = ((λ e. (m.0.0, (λ f i b. let a = m.0.1 f i in b a.0 a.1), omega (arith, U.1 e))), (λ a. h.0));
    word = one_word o.word;
    lowest = λ e. absurd (stuck_partial (sym e ∙ h.0));
    beyond = λ e. absurd (stuck_partial (sym e ∙ h.0));
    nameless = λ e. h.1;
    most = omega (arith, U.0);
  }

-- Laying ends as document 01 says, whatever the number of paths allowed.
pub laying_ended : (np : ℕ) (ps : List ℕ) (on : List Bool) → Layable np ps on → Wide ps on → (c : ℕ) → T (at on c) → (n : ℕ) → Ended np ps on n (laying np ps on n)
unfolding laying start
laying_ended np ps on G many c p n =
    let K = kept_laying np ps on G many c p n in
    ended_of np ps on G n (laying np ps on n) K (rounds_used np ps on n (start np ps on (first_channel np ps on))) (first_laid np ps on G many c p n)
    (judge np ps on (laying np ps on n).state) (judge_means np ps on G (laying np ps on n).state K) (rounds_say np ps on n (start np ps on (first_channel np ps on)))

-- With as many paths allowed as there are channels it is never PARTIAL.
pub laying_whole : (np : ℕ) (ps : List ℕ) (on : List Bool) → Layable np ps on → Wide ps on → (c : ℕ) → T (at on c) → (n : ℕ) → length on ≤ n → (laying np ps on n).word ≢ PARTIAL
laying_whole np ps on G many c p n h e =
    omega (arith, ((laying_ended np ps on G many c p n).partial.0 e).2, kept_fewer np ps on G (laying np ps on n).state (kept_laying np ps on G many c p n))

-- ---- a plate that is read

pub wide : (p : Plate) → Accepted p → Wide p.ends (whole_plate p)
wide p A = wide_of p.ports p.ends (whole_plate p) A.ports.0 A.uncut

pub ended_laid_out : (b : List ℕ) (p : Plate) → read_plate b ≡ given p → (n : ℕ) → Ended p.ports p.ends (whole_plate p) n (laid_out p n)
unfolding laid_out
ended_laid_out b p h n =
    let A = accepted b p h in
    laying_ended p.ports p.ends (whole_plate p) (layable p A) (wide p A) 0 (channel_play p A) n

pub whole_laid_out : (b : List ℕ) (p : Plate) → read_plate b ≡ given p → (laid_out p without_cap).word ≢ PARTIAL
unfolding laid_out
whole_laid_out b p h =
    let A = accepted b p h in
    laying_whole p.ports p.ends (whole_plate p) (layable p A) (wide p A) 0 (channel_play p A) without_cap (omega (arith, length-replicate p.channels true, A.channels.1))
