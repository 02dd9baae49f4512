-- The worker's bit is added where it is not set.
use Rattle.step.proofs.Ringing.{low_shade, black_fits, blackened_words}
use Rattle.step.proofs.ring.blackened.Goals as goal

pub overflow_sub-white : goal.overflow_sub-white
overflow_sub-white c = low_shade c.requires (c.shade-white.ensures c.requires)

pub overflow_add-result : goal.overflow_add-result
overflow_add-result c = record { fits = black_fits c.requires (c.shade-white.ensures c.requires) }

pub returns : goal.returns
returns c = λ x. blackened_words x (c.shade-white.ensures x)
