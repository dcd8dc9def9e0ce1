-- The numbers of Color.
-- Made by tools/asn1 from shapes.asn1.
use Rattle.std.specs.Prelude.{◌∷◌, ◌≡◌, List, Some, [], pos, refl, ℤ}
use Rattle.der_numbers.specs.Enumerated.{Names, named}
use Rattle.der_shapes.specs.declared.shapes.color.Color.{Color}
use Rattle.der_shapes.specs.declared.shapes.color.Color.TheVariants.{Blue, Green, Red}

abbrev pub number_of_color : Color → ℤ
number_of_color Red = pos 0
number_of_color Green = pos 1
number_of_color Blue = pos 2

abbrev pub all_of_color : List Color
all_of_color = Red ∷ Green ∷ Blue ∷ []

pub color_is_found : (value : Color) → named number_of_color all_of_color (number_of_color value) ≡ Some value
color_is_found Red = refl
color_is_found Green = refl
color_is_found Blue = refl

abbrev pub names_of_color : Names Color
names_of_color = record {
  number_of = number_of_color;
  values = all_of_color;
  is_found = color_is_found;
  fit = refl;
}
