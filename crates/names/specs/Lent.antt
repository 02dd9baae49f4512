-- Names and texts, from what is lent as them.
use Rattle.names.specs.declared.LentNames.{LentNames}
use Rattle.names.specs.declared.LentTexts.{LentTexts}
use Rattle.names.specs.Names.{Names, names_of}
use Rattle.names.specs.Call.{Texts, texts_of}

abbrev pub names_in : LentNames → Names
names_in names = names_of names.width names.bytes.now names.objects.now

abbrev pub texts_in : LentTexts → Texts
texts_in texts = texts_of texts.bytes.now texts.ends.now texts.owners.now
