-- `parse::field_at`: each exit says why the digits end.
use Rattle.std.proofs.Common.{◌≡◌, refl, ℕ, ◌-◌, List, length, take, drop, arith}
use Rattle.std.proofs.lemmas.Slice.{between_to_end}
use Rattle.matrix.proofs.Fields.{scanning_start, scanning_next, ended_other, ended_full, stops_other, stops_none, field_good}
use Rattle.parse.proofs.field_at.Goals as goal
use Rattle.parse.proofs.field_at.Goals.{then-b-stop-via-then-b-stop, then-b-stop-via-else-b-stop+then-k-eq0}

-- the part that is read
rest : (xs : List ℕ) (i : ℕ) → take (length xs - i) (drop i xs) ≡ drop i xs
rest xs i = between_to_end xs i (length xs) (omega arith)

pub loop-k-init : goal.loop-k-init
loop-k-init c = scanning_start _

pub returns-then-b-stop : goal.returns-then-b-stop
returns-then-b-stop c =
    let a = c.loop-k.invariant in
    let d = ended_other a c.if-not-is_ascii_digit.ensures.cases in
    rw (← rest c.args.text.now c.args.at)
    (elim c.then-b-stop.branch [
      | then-b-stop-via-then-b-stop w ↦ stops_other a d w.if-b-stop.true
      | then-b-stop-via-else-b-stop+then-k-eq0 w ↦ stops_none a d _ w.if-k-eq0.true
    ])

pub returns-then-not-is_ascii_digit : goal.returns-then-not-is_ascii_digit
returns-then-not-is_ascii_digit c =
    let a = c.loop-k.invariant in
    field_good (rest c.args.text.now c.args.at) a (ended_other a c.if-not-is_ascii_digit.ensures.cases) c.if-b-stop.false c.loop-k-test.true c.if-k-eq0.false

pub returns-then-k-eq-MOST_DIGITS : goal.returns-then-k-eq-MOST_DIGITS
returns-then-k-eq-MOST_DIGITS c =
    let a = c.loop-k.invariant in
    rw (← rest c.args.text.now c.args.at)
    (stops_other a (ended_full a c.if-k-eq-MOST_DIGITS.true) (λ z. omega (arith, z, c.if-not-is_ascii_digit.ensures.cases.0, c.requires.1.1)))

pub loop-k-preserved : goal.loop-k-preserved
loop-k-preserved c =
    let h = c.if-not-is_ascii_digit.ensures.cases in
    rw c.from.ensures (scanning_next c.loop-k.invariant c.loop-k-test.true refl h.0 h.1 c.if-k-eq-MOST_DIGITS.false)
