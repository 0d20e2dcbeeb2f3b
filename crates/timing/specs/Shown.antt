-- How a number of thousandths is printed.
use Rattle.std.specs.Prelude.{ℕ, ◌-◌, ◌/◌, ◌%◌, ◌^◌, List, [], ◌∷◌, ◌++◌, false}
use Rattle.std.specs.Fmt.{decimal, digits, format_spec, padded_integral}

-- three digits, the first of which may be 0
abbrev pub three_digits : ℕ → List ℕ
three_digits n = padded_integral (format_spec 32 0 4 3 (2 ^ 64 - 1)) false [] (digits 10 false n)

-- the thousands, a point, and the rest
abbrev pub shown : ℕ → List ℕ
shown n = decimal (n / 1000) ++ (46 ∷ three_digits (n % 1000))
