use Rattle.catalogue.proofs.Checking.{clear_listed}
use Rattle.catalogue.proofs.check.records_right.Goals as goal

pub returns : goal.returns
returns c e =
    clear_listed _ _ _ c.if-bytes-end.false (c.objects_right.ensures c.if-not-objects_right.false) (c.references_right.ensures e)
