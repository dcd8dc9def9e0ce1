-- The types by their names: the names of `certview lines` and those of `derview`.
use Rattle.der_lines.specs.Tables.{Table, or_else}
use Rattle.certview_names.specs.Messages.{message_of}
use Rattle.derview_names.specs.Names.{type_of}

unfoldable pub type_named : Table
type_named name = or_else (message_of name) (type_of name)
