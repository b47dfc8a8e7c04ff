-- `lay::lay` meets its contract: a file that is refused, slices too short and a plate that is laid are the three cases of the call (Calling).
-- Assumes nothing.
use mathlib.Core.Path.{◌≡◌, refl, ap, ◌∙◌}
use Prim.Native.Nat.{◌+◌, ◌-◌, ◌*◌, ◌≤◌}
use native.Mathlib.Omega.{arith}
use lib.ListN.{length}
use lib.Seq.{length-take-le}
use borrow.Author.Rules.{rules}
use Rattle.std.specs.Prelude.{Err}
use Rattle.rules.specs.Refusals.{given, pairs_of}
use Rattle.rules.specs.Laying.{lay_plate}
use Rattle.plate.proofs.Laws.{Known, known, plate_in, part_told}
use Rattle.laid.specs.Answers.{laid_answer}
use Rattle.laid.proofs.Leaving.{laid_out_of, ports_fewer, fits, laid_told, laid_turns, laid_lands, laid_lengths}
use Rattle.lay.proofs.Calling.{unread_all, refused_all, long_enough, short_so, call_short, call_laid}
use Rattle.lay.proofs.lay.Goals as goal
use Rattle.lay.proofs.lay.Goals.{After-lay_pairs, After-pairs}

-- the slices are long enough
enough : (c : After-pairs) → (2 * c.in_ok-p.p.channels ≤ length c.args.turns.now) × (2 * c.in_ok-p.p.channels ≤ length c.args.lands.now) × (c.in_ok-p.p.channels + 2 - c.in_ok-p.p.ports ≤ length c.args.lengths.now)
enough c =
    let a = c.args in
    let p = c.in_ok-p.p in
    long_enough c.is_short.result (2 * p.channels) (p.channels + 2 - p.ports) (length a.turns.now) (length a.lands.now) (length a.lengths.now) c.is_short.ensures c.if-is_short.false

-- the pairs are the file's
pairs : (c : After-pairs) → c.pairs.result.now ≡ pairs_of c.args.file.now
pairs c = part_told _ _ c.read-got.ensures _ c.pairs.ensures

-- where the plate is laid, the call gives what laying comes to
laid : (c : After-lay_pairs) → Known c.args.file.now c.in_ok-p.p → let a = c.args in lay_plate a.file.now a.n (length a.turns.now) (length a.lands.now) (length a.lengths.now) ≡ given (laid_out_of (plate_in a.file.now) a.n)
laid c K = call_laid _ _ K _ _ _ _ (short_so _ _ K _ _ _ _ _ _ refl refl c.is_short.ensures ∙ c.if-is_short.false)

pub returns-in_err-p : goal.returns-in_err-p
returns-in_err-p c =
    let err : c.from_residual.result ≡ Err c.in_err-p.field-0.0 = search rules in
    let w = unread_all c.args.file.now c.args.n c.args.turns.now c.args.lands.now c.args.lengths.now _ c.read-got.ensures _ (c.in_err-p.was) in
    record { answer = ap laid_answer err ∙ w.0; turns = w.1.0; lands = w.1.1.0; lengths = w.1.1.1 }

pub overflow_mul-darts : goal.overflow_mul-darts
overflow_mul-darts c = omega (arith, (known _ _ c.read-got.ensures _ (c.in_ok-p.was)).most_channels_lem)

pub overflow_add-most : goal.overflow_add-most
overflow_add-most c = omega (arith, (known _ _ c.read-got.ensures _ (c.in_ok-p.was)).most_channels_lem)

pub overflow_sub-most : goal.overflow_sub-most
overflow_sub-most c = omega (arith, ports_fewer _ _ (known _ _ c.read-got.ensures _ (c.in_ok-p.was)))

pub returns-then-is_short : goal.returns-then-is_short
returns-then-is_short c =
    let a = c.args in
    let K = known _ _ c.read-got.ensures _ (c.in_ok-p.was) in
    let w = refused_all (lay_plate a.file.now a.n (length a.turns.now) (length a.lands.now) (length a.lengths.now)) _ (call_short _ _ K _ _ _ _ (short_so _ _ K _ _ _ _ _ _ refl refl c.is_short.ensures ∙ c.if-is_short.true)) _ _ _ in
    record { answer = w.0; turns = w.1.0; lands = w.1.1.0; lengths = w.1.1.1 }

pub lay_pairs-requires : goal.lay_pairs-requires
lay_pairs-requires c =
    let was = (goal.at.lay_pairs-requires c).After-pairs in
    let e = enough was in
    fits _ _ (known _ _ c.read-got.ensures _ (c.in_ok-p.was)) _ _ (pairs was) _ _ _ (length-take-le _ _ e.0) (length-take-le _ _ e.1) (length-take-le _ _ e.2)

pub returns : goal.returns
returns c =
    let was = goal.at.returns c in
    let a = c.args in
    let K = known _ _ c.read-got.ensures _ (c.in_ok-p.was) in
    let S = c.lay_pairs.ensures in
    let e = pairs was.After-pairs in
    let m = length-take-le _ _ (enough was.After-pairs).2 in
    let l = laid was.After-lay_pairs K in
    record { answer = laid_told _ _ K _ _ e _ _ _ _ _ S m _ l; turns = laid_turns _ _ K _ _ e _ _ _ _ _ S m _ l a.turns.now; lands = laid_lands _ _ K _ _ e _ _ _ _ _ S m _ l a.lands.now; lengths = laid_lengths _ _ K _ _ e _ _ _ _ _ S m _ l a.lengths.now }
