-- Writing one thing behind another.
--   Cut w x more                  w is x and then `more`
--   Writing w o n rest            of w, which is written from the buffer o on, all but `rest` stands in the buffer n
-- wrote_none, wrote_then: nothing written; two things written one behind the other. put_size, wrote_size: the buffer is as long as before. put_as, wrote_as: the same thing, written otherwise.
-- begin, begin_as, step, last, finish: the beginning of such writing, one part more, the last part, and the end where nothing is left. room: there is room for the part that comes next. size: the buffer is as long as before.
-- Assumes nothing.
use mathlib.Core.Path.{◌≡◌, refl, sym, ap, ◌∙◌, subst}
use mathlib.Core.List.{List, [], ◌++◌, append_assoc, append-nil}
use Prim.Native.Nat.{ℕ, ◌+◌, ◌≤◌}
use native.Mathlib.Nat.{add-zero}
use native.Mathlib.Omega.{arith}
use lib.ListN.{length, take, drop, length-append, length-drop, take-append-drop}
use lib.Seq.{length-take-le, take_at, drop_at, drop-drop}
use Rattle.print.specs.declared.Out.{Out}
use Rattle.print.specs.Puts.{Put, Room, Wrote}

put_none : (at : ℕ) (o : List ℕ) → Put [] at o o at
put_none at o = record {
  stop = omega arith;
  held = sym (take-append-drop at o) ∙ ap (λ (k : ℕ). take at o ++ drop k o) (sym (add-zero at)) ∙ ap (λ (m : List ℕ). m ++ drop (at + 0) o) (sym (append-nil (take at o)));
}

module _ {l : List ℕ} {at : ℕ} {a b : List ℕ} {r : ℕ} (lent : at + length l ≤ length a) (p : Put l at a b r) where
  front : length (take at a ++ l) ≡ at + length l
  front = length-append (take at a) l ∙ ap (λ (k : ℕ). k + length l) (length-take-le at a (omega arith))

  pub put_size : length b ≡ length a
  put_size = ap length p.held ∙ length-append (take at a ++ l) (drop (at + length l) a) ∙ omega (arith, front, length-drop (at + length l) a)

  put_then : {m c : List ℕ} {r' : ℕ} → Put m r b c r' → Put (l ++ m) at a c r'
  put_then {m} {c} {r'} q = record {
    stop = q.stop ∙ omega (arith, p.stop, length-append l m);
    held =
        q.held ∙ ap (λ (k : ℕ). take k b ++ m ++ drop (k + length m) b) p.stop
        ∙ ap (λ (f : List ℕ). f ++ m ++ drop (at + length l + length m) b) (ap (take (at + length l)) p.held ∙ take_at (take at a ++ l) (drop (at + length l) a) (at + length l) front)
        ∙ ap (λ (f : List ℕ). f ++ drop (at + length l + length m) b) (append_assoc (take at a) l m)
        ∙ ap (λ (f : List ℕ). take at a ++ (l ++ m) ++ f) behind;
  }
    where
      both : at + length l + length m ≡ at + length (l ++ m)
      both = omega (arith, length-append l m)

      behind : drop (at + length l + length m) b ≡ drop (at + length (l ++ m)) a
      behind =
          sym (drop-drop (length m) (at + length l) b)
          ∙ ap (drop (length m)) (ap (drop (at + length l)) p.held ∙ drop_at (take at a ++ l) (drop (at + length l) a) (at + length l) front)
          ∙ drop-drop (length m) (at + length l) a
          ∙ ap (λ (k : ℕ). drop k a) both

-- the same thing, written otherwise
pub put_as : {l m : List ℕ} {at : ℕ} {a b : List ℕ} {r : ℕ} → l ≡ m → Put l at a b r → Put m at a b r
put_as {at = at} {a = a} {b = b} {r = r} e p = subst (λ (k : List ℕ). Put k at a b r) e p

-- ---- the buffer, and how much of it is written

pub wrote_none : (o : Out) → Wrote [] o o
wrote_none o = record { put = put_none o.at o.bytes.now; kept = refl }

-- the same thing, written otherwise
pub wrote_as : {l m : List ℕ} {o n : Out} → l ≡ m → Wrote l o n → Wrote m o n
wrote_as e p = record { put = put_as e p.put; kept = p.kept }

module _ {l : List ℕ} {o n : Out} (lent : Room l o) (p : Wrote l o n) where
  pub wrote_size : length n.bytes.now ≡ length o.bytes.now
  wrote_size = put_size lent p.put

  pub wrote_then : {m : List ℕ} {n' : Out} → Wrote m n n' → Wrote (l ++ m) o n'
  wrote_then q = record { put = put_then lent p.put q.put; kept = q.kept ∙ p.kept }

-- ---- a thing of many parts

pub record Cut (w x more : List ℕ) : Type 0 where
  pub is : w ≡ x ++ more

pub whole : (w : List ℕ) → Cut w w []
whole w = record { is = sym (append-nil w) }

pub record Writing (w : List ℕ) (o n : Out) (rest : List ℕ) : Type 0 where
  pub done : List ℕ
  pub parts : w ≡ done ++ rest
  pub wrote : Wrote done o n

pub begin : (w : List ℕ) (o : Out) → Writing w o o w
begin w o = record { done = []; parts = refl; wrote = wrote_none o }

pub begin_as : (w rest : List ℕ) (o : Out) → w ≡ rest → Writing w o o rest
begin_as w rest o e = record { done = []; parts = e; wrote = wrote_none o }

module _ {w : List ℕ} {o n : Out} {rest : List ℕ} (lent : Room w o) (p : Writing w o n rest) where
  fits : Room p.done o
  fits = omega (arith, lent, ap length p.parts, length-append p.done rest)

  pub size : length n.bytes.now ≡ length o.bytes.now
  size = wrote_size fits p.wrote

  pub room : {x more : List ℕ} → Cut rest x more → Room x n
  room {x} {more} e = omega (arith, lent, size, p.wrote.put.stop, ap length p.parts, length-append p.done rest, ap length e.is, length-append x more)

  pub step : {x more : List ℕ} {n' : Out} → Cut rest x more → Wrote x n n' → Writing w o n' more
  step {x} {more} e q = record {
    done = p.done ++ x;
    parts = p.parts ∙ ap (λ (m : List ℕ). p.done ++ m) e.is ∙ sym (append_assoc p.done x more);
    wrote = wrote_then fits p.wrote q;
  }

  pub finish : rest ≡ [] → Wrote w o n
  finish e = wrote_as (sym (p.parts ∙ ap (λ (m : List ℕ). p.done ++ m) e ∙ append-nil p.done)) p.wrote

  -- the last part
  pub last : {n' : Out} → Wrote rest n n' → Wrote w o n'
  last q = wrote_as (sym p.parts) (wrote_then fits p.wrote q)
