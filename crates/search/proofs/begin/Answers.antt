use Rattle.layers.proofs.Growing.{listing_start, listing_ready, listing_next, listing_end}
use Rattle.search.proofs.begin.Goals as goal

pub loop-v-init : goal.loop-v-init
loop-v-init c = listing_start c.requires.0 c.requires.1

pub find-requires : goal.find-requires
find-requires c = listing_ready c.requires.0 c.requires.1 c.loop-v.invariant c.loop-v-test.true

pub loop-v-preserved : goal.loop-v-preserved
loop-v-preserved c = listing_next c.requires.0 c.requires.1 c.loop-v.invariant c.loop-v-test.true c.find.ensures

pub returns : goal.returns
returns c = listing_end c.requires.0 c.requires.1 c.loop-v.invariant c.loop-v-test.false
