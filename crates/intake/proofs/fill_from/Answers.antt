-- `intake::fill_from` meets its contract: each read puts what it consumed behind what was read before.
-- Assumes nothing.
use Rattle.std.proofs.Common.{ℕ, ◌≤◌, List, length, sym, subst, arith}
use Rattle.std.proofs.lemmas.List.{length-append, length-take-le}
use Rattle.std.specs.Io.KnownBytes.{Consumes}
use Rattle.intake.proofs.Consuming.{consumes_on, put_behind}
use Rattle.intake.proofs.fill_from.Goals as goal

pub loop-n-preserved : goal.loop-n-preserved
loop-n-preserved g c =
    let k : c.in_ok-more.more ≤ length c.read.new.buf = c.in_ok-more.ensures.bound.0 in
    record {
      within = simp length-append (omega (arith, k, length-take-le c.loop-n.n c.loop-n.into c.loop-n.invariant.within));
      bytes =
          subst (λ (bs : List ℕ). Consumes (g.R.Read.remaining c.args.input.now) (g.R.Read.remaining c.read.new.self) bs)
          (sym (put_behind c.loop-n.n c.in_ok-more.more c.loop-n.into c.read.new.buf _ c.loop-n.invariant.within k))
          (consumes_on _ _ _ _ _ c.loop-n.invariant.bytes c.in_ok-more.ensures.bytes.0);
    }
