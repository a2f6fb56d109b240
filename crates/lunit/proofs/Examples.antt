-- The definitions, computed.
use Rattle.std.proofs.Common.{◌≡◌, ℤ, pos, negsuc, true, false, [], codes, Some, None, Ok, Err, refl}
use Rattle.std.specs.Fmt.{digits}
use Rattle.lunit.specs.Units.{clamp, floor_div, percent}
use Rattle.lunit.specs.Decimals.{read_units, read_number}
use Rattle.lunit.specs.Printed.{printed}
use Rattle.lunit.specs.Names.{is_name, read_name, edge_of}
use Rattle.lunit.specs.Areas.{areas_overlap}
use Rattle.lunit.specs.declared.number.NumberForm.{NumberForm}
use Rattle.lunit.specs.declared.geometry.Area.{Area}

-- limiting

above_the_range : clamp (pos 1073741825) ≡ pos 1073741824
unfolding clamp
above_the_range = refl

below_the_range : clamp (negsuc 1073741824) ≡ negsuc 1073741823
unfolding clamp
below_the_range = refl

in_the_range : clamp (negsuc 1073741823) ≡ negsuc 1073741823
unfolding clamp
in_the_range = refl

-- percentages: 33.333% of 100 units is 33.333; 50% of -1 unit is -0.5; 200% of the greatest length is limited

third_of_hundred : percent (pos 100) 33333 ≡ pos 33
unfolding clamp floor_div
third_of_hundred = refl

half_of_minus_one : percent (negsuc 0) 50000 ≡ negsuc 0
unfolding clamp floor_div
half_of_minus_one = refl

half_of_minus_three : percent (negsuc 2) 50000 ≡ negsuc 1
unfolding clamp floor_div
half_of_minus_three = refl

twice_the_top : percent (pos 1073741824) 200000 ≡ pos 1073741824
unfolding clamp floor_div
twice_the_top = refl

-- numbers in text, as units

one_and_a_half : read_units (codes "1.5") ≡ Ok (pos 96)
one_and_a_half = refl

with_plus : read_units (codes "+12") ≡ Ok (pos 768)
with_plus = refl

no_digits_before : read_units (codes ".5") ≡ Ok (pos 32)
no_digits_before = refl

no_digits_after : read_units (codes "5.") ≡ Ok (pos 320)
no_digits_after = refl

zeros_before : read_units (codes "-007") ≡ Ok (negsuc 447)
zeros_before = refl

minus_zero : read_units (codes "-0") ≡ Ok (pos 0)
minus_zero = refl

one_unit_below : read_units (codes "-0.015625") ≡ Ok (negsuc 0)
one_unit_below = refl

less_than_a_unit : read_units (codes "0.0156249") ≡ Ok (pos 0)
less_than_a_unit = refl

truncated_toward_zero : read_units (codes "-0.03") ≡ Ok (negsuc 0)
truncated_toward_zero = refl

nines : read_units (codes "0.015624999999999999999") ≡ Ok (pos 0)
nines = refl

the_greatest : read_units (codes "1048576") ≡ Ok (pos 67108864)
the_greatest = refl

the_greatest_with_zeros : read_units (codes "-1048576.000") ≡ Ok (negsuc 67108863)
the_greatest_with_zeros = refl

past_the_greatest : read_units (codes "1048576.00000001") ≡ Err (record {})
past_the_greatest = refl

far_past_the_greatest : read_units (codes "99999999999999999999999999") ≡ Err (record {})
far_past_the_greatest = refl

no_text : read_units [] ≡ Err (record {})
no_text = refl

sign_alone : read_units (codes "-") ≡ Err (record {})
sign_alone = refl

point_alone : read_units (codes "+.") ≡ Err (record {})
point_alone = refl

two_signs : read_units (codes "--1") ≡ Err (record {})
two_signs = refl

two_points : read_units (codes "1.2.3") ≡ Err (record {})
two_points = refl

a_unit : read_units (codes "1px") ≡ Err (record {})
a_unit = refl

an_exponent : read_units (codes "1e3") ≡ Err (record {})
an_exponent = refl

-- numbers in another form: thousandths from 0 to 10,000

abbrev factors : NumberForm
factors = record { scale = 1000; most = 10000; below_zero = false }

thousandths : read_number factors (codes "2.3459") ≡ Some (pos 2345)
thousandths = refl

below_zero_refused : read_number factors (codes "-0.00000001") ≡ None
below_zero_refused = refl

minus_zero_allowed : read_number factors (codes "-.0") ≡ Some (pos 0)
minus_zero_allowed = refl

past_the_most : read_number factors (codes "10000.0001") ≡ None
past_the_most = refl

-- printed decimals

nothing : printed (pos 0) ≡ codes "0"
unfolding digits
nothing = refl

one_unit : printed (pos 1) ≡ codes "0.015625"
unfolding digits
one_unit = refl

thirds : printed (pos 2133) ≡ codes "33.328125"
unfolding digits
thirds = refl

half_below_zero : printed (negsuc 31) ≡ codes "-0.5"
unfolding digits
half_below_zero = refl

whole : printed (pos 1048576) ≡ codes "16384"
unfolding digits
whole = refl

tenths : printed (negsuc 6463) ≡ codes "-101"
unfolding digits
tenths = refl

-- names

letters_and_marks : read_name (codes "_a-1") ≡ Ok (codes "_a-1")
letters_and_marks = refl

digit_first : read_name (codes "1a") ≡ Err (record {})
digit_first = refl

minus_first : is_name (codes "-a") ≡ false
minus_first = refl

no_name : is_name [] ≡ false
no_name = refl

a_space : is_name (codes "a b") ≡ false
a_space = refl

fifty_eight : is_name (codes "abcdefghijklmnopqrstuvwxyzabcdefghijklmnopqrstuvwxyzabcdef") ≡ true
fifty_eight = refl

fifty_nine : is_name (codes "abcdefghijklmnopqrstuvwxyzabcdefghijklmnopqrstuvwxyzabcdefg") ≡ false
fifty_nine = refl

start_edge : edge_of false (codes "main") ≡ codes "main-start"
start_edge = refl

end_edge : edge_of true (codes "main") ≡ codes "main-end"
end_edge = refl

-- areas: the first two columns of the first two rows, against others

abbrev area : ℤ → ℤ → ℤ → ℤ → Area
area left right top bottom = record { columns = record { start = left; end = right }; rows = record { start = top; end = bottom } }

shares_a_cell : areas_overlap (area (pos 0) (pos 2) (pos 0) (pos 2)) (area (pos 1) (pos 3) (pos 1) (pos 3)) ≡ true
shares_a_cell = refl

touches_at_a_line : areas_overlap (area (pos 0) (pos 2) (pos 0) (pos 2)) (area (pos 2) (pos 3) (pos 0) (pos 2)) ≡ false
touches_at_a_line = refl

shares_columns_alone : areas_overlap (area (pos 0) (pos 2) (pos 0) (pos 2)) (area (pos 0) (pos 2) (pos 2) (pos 4)) ≡ false
shares_columns_alone = refl

shares_none : areas_overlap (area (pos 0) (pos 2) (pos 0) (pos 2)) (area (negsuc 1) (pos 0) (negsuc 1) (pos 0)) ≡ false
shares_none = refl

lies_within : areas_overlap (area (negsuc 9) (pos 9) (negsuc 9) (pos 9)) (area (pos 0) (pos 1) (pos 0) (pos 1)) ≡ true
lies_within = refl
