-- What two reads consume, one after the other.
--   consumes_on   the bytes of the first, and then those of the second
--   put_behind    a part written behind the front of a buffer: the front with what of the part was read
-- Assumes nothing.
use Rattle.std.proofs.Common.{◌≡◌, ℕ, ◌+◌, ◌≤◌, List, ◌++◌, length, take, ap, subst, ◌∙◌, append_assoc}
use Rattle.std.proofs.lemmas.List.{length-take-le, take-append-le}
use Rattle.std.proofs.Math.Seq.{take-append-add}
use Rattle.std.specs.declared.option.Option.{Option}
use Rattle.std.specs.declared.option.Option.TheVariants.{None, Some}
use Rattle.std.specs.Io.KnownBytes.{Consumes}

pub consumes_on : (o m p : Option (List ℕ)) (a b : List ℕ) → Consumes o m a → Consumes m p b → Consumes o p (a ++ b)
consumes_on None m p a b h k = tt
consumes_on (Some xs) None p a b h k = absurd h
consumes_on (Some xs) (Some ys) None a b h k = absurd k
consumes_on (Some xs) (Some ys) (Some zs) a b h k = rw (append_assoc, ← k) h

pub put_behind : (n k : ℕ) (front part rest : List ℕ) → n ≤ length front → k ≤ length part → take (n + k) (take n front ++ (part ++ rest)) ≡ take n front ++ take k part
put_behind n k front part rest h j =
    subst (λ (z : ℕ). take (z + k) (take n front ++ (part ++ rest)) ≡ take n front ++ take k part) (length-take-le n front h)
    (take-append-add (take n front) (part ++ rest) k ∙ ap (λ (t : List ℕ). take n front ++ t) (take-append-le k part rest j))
