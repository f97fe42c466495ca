-- A name in any role, seen in one of them.
use Rattle.std.specs.Prelude.{Option, Some, None}
use Rattle.tree_model.specs.Cursor.{Cursor}
use Rattle.ra_ap_syntax.specs.declared.ast.views.name_like.NameLike.{NameLike}
use Rattle.ra_ap_syntax.specs.declared.ast.views.name_like.NameLike.TheVariants.{NameRef, Name, Lifetime}

-- the node of a name that is used, and of a lifetime
abbrev pub used_name : NameLike → Option Cursor
used_name (NameRef it) = Some it.syntax
used_name (Name it) = None
used_name (Lifetime it) = None

abbrev pub lifetime_in : NameLike → Option Cursor
lifetime_in (NameRef it) = None
lifetime_in (Name it) = None
lifetime_in (Lifetime it) = Some it.syntax
