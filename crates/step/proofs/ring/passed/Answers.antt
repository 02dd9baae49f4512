-- The worker's bit is taken out where it is set.
use Rattle.step.proofs.Ringing.{black_there, sent_words, passed_words, black_token, same_token}
use Rattle.step.proofs.ring.passed.Goals as goal

pub overflow_sub-black : goal.overflow_sub-black
overflow_sub-black c = let x = c.requires.0 in black_there x (c.shade-own.ensures x)

pub returns-then-b-eq0 : goal.returns-then-b-eq0
returns-then-b-eq0 c = λ x. sent_words x (c.shade-own.ensures x) c.args.workers c.if-b-eq0.true

pub returns-then-own-eq1 : goal.returns-then-own-eq1
returns-then-own-eq1 c = λ x.
    let e = c.shade-own.ensures x in
    passed_words x e c.args.workers c.if-b-eq0.false (black_token x e c.if-own-eq1.true)

pub returns : goal.returns
returns c = λ x.
    let e = c.shade-own.ensures x in
    passed_words x e c.args.workers c.if-b-eq0.false (same_token x e c.if-own-eq1.false)
