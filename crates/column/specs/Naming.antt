-- What stored classes mean.
use Rattle.arrangement.specs.Stored.{classes_meaning}
use Rattle.column.specs.declared.naming.Naming.{Naming}
use Rattle.meaning.specs.Fillings.{Setting}

-- the arrangements that the classes are, by what they store
abbrev pub setting_of : Naming → Setting
setting_of n = record { slots = classes_meaning n.slots; readings = classes_meaning n.readings }
