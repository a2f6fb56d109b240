-- Values with and without unsupported words. They hold by computation.
use Rattle.std.specs.Prelude.{◌≡◌, refl, ℕ, Bool, true, false, List, codes}
use Rattle.track_text.specs.Words.{words_of}
use Rattle.track_text.specs.Unsupported.{is_unsupported}

abbrev refused : List ℕ → Bool
refused text = is_unsupported false (words_of text)

masonry : refused (codes "masonry") ≡ true
masonry = refl

masonry_as_a_name : refused (codes "[masonry] 1px") ≡ false
masonry_as_a_name = refl

keyword : refused (codes "inherit") ≡ true
keyword = refl

keyword_in_a_set : refused (codes "[unset] 1px") ≡ false
keyword_in_a_set = refl

keyword_behind_a_bad_value : refused (codes "1px ) revert") ≡ true
keyword_behind_a_bad_value = refl

calculation : refused (codes "calc(1px)") ≡ true
calculation = refl

function_apart : refused (codes "minmax(clamp (1px), auto)") ≡ true
function_apart = refl

function_name_alone : refused (codes "min 1px (") ≡ false
function_name_alone = refl

em : refused (codes "1em") ≡ true
em = refl

rem : refused (codes "-.5rem") ≡ true
rem = refl

rem_in_version_2 : is_unsupported true (words_of (codes "-.5rem")) ≡ false
rem_in_version_2 = refl

ex_in_version_2 : is_unsupported true (words_of (codes "1ex")) ≡ true
ex_in_version_2 = refl

unit_alone : refused (codes "vmin") ≡ false
unit_alone = refl

unit_in_a_set : refused (codes "[1em] 1px") ≡ false
unit_in_a_set = refl

brackets_do_not_nest : refused (codes "[ [ 1em ] 2em ]") ≡ true
brackets_do_not_nest = refl

bracket_not_closed : refused (codes "[ 1em 2em") ≡ false
bracket_not_closed = refl

subgrid_filled : refused (codes "subgrid repeat(auto-fill, [a])") ≡ true
subgrid_filled = refl

subgrid_behind : refused (codes "repeat(auto-fit, 1px) subgrid") ≡ false
subgrid_behind = refl

subgrid_as_a_name : refused (codes "[subgrid] repeat(auto-fill, 1px)") ≡ false
subgrid_as_a_name = refl
