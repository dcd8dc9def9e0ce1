-- Which characters are shown as they are.
use Rattle.std.specs.Prelude.{ℕ, Bool, true, false, ◌&&◌, not}
use Rattle.unicode.specs.Binary.{is_default_ignorable_code_point}
use Rattle.ucd_category.specs.GeneralCategory.{general_category}
use Rattle.ucd_category.specs.declared.GeneralCategory.{GeneralCategory}
use Rattle.ucd_category.specs.declared.GeneralCategory.TheVariants.{Control, Format, Surrogate, PrivateUse, Unassigned, LineSeparator, ParagraphSeparator}

-- the categories of characters that a terminal does not show, or that act on it: Cc, Cf, Cs, Co, Cn, Zl and Zp
abbrev pub is_hidden : GeneralCategory → Bool
is_hidden Control = true
is_hidden Format = true
is_hidden Surrogate = true
is_hidden PrivateUse = true
is_hidden Unassigned = true
is_hidden LineSeparator = true
is_hidden ParagraphSeparator = true
is_hidden category = false

-- whether a character is shown unchanged
abbrev pub is_plain : ℕ → Bool
is_plain c = not (is_hidden (general_category c)) && not (is_default_ignorable_code_point c)
