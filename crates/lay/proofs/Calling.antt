-- The laying call (rules, `lay_plate`) by what reading gave: a refusal, slices too short, or a plate that is laid.
--   short_of p t l s       one of t turns, l land darts and s lengths is fewer than the plate p needs
-- call_refused: a file that is refused. call_short: slices too short. call_laid: a plate that is laid. short_..: the test of the lent slices, by the test that decides.
-- Assumes nothing.
use mathlib.Core.Path.{◌≡◌, refl, sym, ap, ◌∙◌}
use mathlib.Core.Bool.{Bool, true, false, cond, ◌||◌}
use mathlib.Core.List.{List}
use Prim.Native.Nat.{ℕ, ◌+◌, ◌-◌, ◌*◌, ◌<◌, ◌≤◌}
use native.Mathlib.Omega.{arith}
use lib.Dec.{ltb}
use borrow.Author.Tests.{lt-ltb, le-ltb, ltb-false}
use lib.ListN.{length}
use Rattle.std.specs.Prelude.{Result, Err}
use Rattle.rules.specs.Lists.{any}
use Rattle.rules.specs.Refusals.{Answer, given, refused, passed, ◌>>=◌, ◌>>◌, refuse, lent_test, Plate as RulePlate, read_plate}
use Rattle.rules.specs.Laying.{Laid as Laying, lands_of_flat, lay_plate, told, turns_left, lands_left, lengths_left}
use Rattle.laws.proofs.Tests.{or_neither}
use Rattle.plate.specs.declared.Plate.{Plate}
use Rattle.plate.specs.declared.Refusal.{Refusal}
use Rattle.plate.specs.Answers.{number_of, reading_of}
use Rattle.plate.proofs.Laws.{plate_in, Known, unread}
use Rattle.laid.specs.Answers.{laid_answer}
use Rattle.laid.proofs.Leaving.{laid_out_of, flat_lands}

abbrev pub short_of : RulePlate → ℕ → ℕ → ℕ → Bool
short_of p t l s = ltb t (2 * p.channels) || (ltb l (2 * p.channels) || (ltb s (lands_of_flat p) || false))

-- what the call is of a reading
after_reading : (b : List ℕ) (n t l s : ℕ) (a : Answer RulePlate) → read_plate b ≡ a → lay_plate b n t l s ≡ (a >>= λ p. cond (short_of p t l s) (refused 15 0) passed >> given (laid_out_of p n))
unfolding lay_plate lent_test refuse any
after_reading b n t l s a e = ap (λ (x : Answer RulePlate). x >>= λ p. cond (short_of p t l s) (refused 15 0) passed >> given (laid_out_of p n)) e

pub call_refused : (b : List ℕ) (n t l s k q : ℕ) → read_plate b ≡ refused k q → lay_plate b n t l s ≡ refused k q
call_refused b n t l s k q e = after_reading b n t l s (refused k q) e

call_given : (b : List ℕ) (n t l s : ℕ) (p : RulePlate) (f : Bool) → read_plate b ≡ given p → short_of p t l s ≡ f → lay_plate b n t l s ≡ (cond f (refused 15 0) passed >> given (laid_out_of p n))
call_given b n t l s p f e h = after_reading b n t l s (given p) e ∙ ap (λ (x : Bool). cond x (refused 15 0) passed >> given (laid_out_of p n)) h

-- ---- a call that refuses alters nothing

module _ (a : Answer Laying) (k q : ℕ) (e : a ≡ refused k q) (old : List ℕ) where
  pub refused_turns : old ≡ turns_left a old
  unfolding turns_left
  refused_turns = sym (ap (λ (x : Answer Laying). turns_left x old) e)

  pub refused_lands : old ≡ lands_left a old
  unfolding lands_left
  refused_lands = sym (ap (λ (x : Answer Laying). lands_left x old) e)

  pub refused_lengths : old ≡ lengths_left a old
  unfolding lengths_left
  refused_lengths = sym (ap (λ (x : Answer Laying). lengths_left x old) e)

pub refused_told : (a : Answer Laying) (k q : ℕ) → a ≡ refused k q → told a ≡ refused k q
unfolding told
refused_told a k q e = ap told e

pub refused_all : (a : Answer Laying) (y : Refusal) → a ≡ refused (number_of y.fault) y.place → (t l s : List ℕ)
    → (laid_answer (Err y) ≡ told a) × ((t ≡ turns_left a t) × ((l ≡ lands_left a l) × (s ≡ lengths_left a s)))
unfolding laid_answer
refused_all a y e t l s =
    let k = number_of y.fault in
    (sym (refused_told a k y.place e), (refused_turns a k y.place e t, (refused_lands a k y.place e l, refused_lengths a k y.place e s)))

-- a file that is not read
pub unread_all : (b : List ℕ) (n : ℕ) (t l s : List ℕ) (r : Result Plate Refusal) (e : reading_of r b ≡ read_plate b) (x : Refusal) → r ≡ Err x
    → let a = lay_plate b n (length t) (length l) (length s) in (laid_answer (Err x) ≡ told a) × ((t ≡ turns_left a t) × ((l ≡ lands_left a l) × (s ≡ lengths_left a s)))
unread_all b n t l s r e x d =
    refused_all (lay_plate b n (length t) (length l) (length s)) x (call_refused b n (length t) (length l) (length s) (number_of x.fault) x.place (unread b r e x d)) t l s

-- ---- slices that are long enough

pub long_enough : (f : Bool) (d m t l s : ℕ) → f ≡ (ltb t d || (ltb l d || (ltb s m || false))) → f ≡ false → (d ≤ t) × (d ≤ l) × (m ≤ s)
long_enough f d m t l s e h =
    let a = or_neither (ltb t d) (ltb l d || (ltb s m || false)) (sym e ∙ h) in
    let b = or_neither (ltb l d) (ltb s m || false) a.1 in
    let c = or_neither (ltb s m) false b.1 in
    (ltb-false t d a.0, ltb-false l d b.0, ltb-false s m c.0)

-- ---- a plate that was read

module _ (b : List ℕ) (p : Plate) (k : Known b p) where
  abbrev P : RulePlate
  P = plate_in b

  pub short_so : (f : Bool) (d m t l s : ℕ) → d ≡ 2 * p.channels → m ≡ p.channels + 2 - p.ports → f ≡ (ltb t d || (ltb l d || (ltb s m || false))) → short_of P t l s ≡ f
  short_so f d m t l s ed em e =
      let ed' : 2 * P.channels ≡ d = omega (arith, ed, k.channels) in
      let em' : lands_of_flat P ≡ m = flat_lands P ∙ omega (arith, em, k.channels, k.ports) in
      ap (λ (x : ℕ). ltb t x || (ltb l x || (ltb s (lands_of_flat P) || false))) ed' ∙ ap (λ (x : ℕ). ltb t d || (ltb l d || (ltb s x || false))) em' ∙ sym e

  pub call_short : (n t l s : ℕ) → short_of P t l s ≡ true → lay_plate b n t l s ≡ refused 15 0
  call_short n t l s h = call_given b n t l s P true k.answer h

  pub call_laid : (n t l s : ℕ) → short_of P t l s ≡ false → lay_plate b n t l s ≡ given (laid_out_of P n)
  call_laid n t l s h = call_given b n t l s P false k.answer h

-- ---- the test of the code

or_false : (b : Bool) → b || false ≡ b
or_false true = refl
or_false false = refl

pub short_first : (t d : ℕ) (b : Bool) → t < d → true ≡ (ltb t d || b)
short_first t d b h = rw (lt-ltb t d h) refl

pub short_second : (t l d : ℕ) (b : Bool) → d ≤ t → l < d → true ≡ (ltb t d || (ltb l d || b))
short_second t l d b h g = rw (le-ltb t d h, lt-ltb l d g) refl

pub short_third : (t l d : ℕ) (b : Bool) → d ≤ t → d ≤ l → b ≡ (ltb t d || (ltb l d || (b || false)))
short_third t l d b h g = rw (le-ltb t d h, le-ltb l d g) (sym (or_false b))
