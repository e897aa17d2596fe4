-- The definitions on small lists, computed.
use Rattle.std.proofs.Common.{◌≡◌, [], ◌∷◌, Some, None, refl}
use Rattle.texts.specs.Consecutive.{numbers, is_in}
use Rattle.frame_alloc.specs.Frames.{frames_in, lowest_frame, lowest_run, lowest_pair, lowest_group, without}

touching_ranges : frames_in (record { first = 1; count = 2 } ∷ record { first = 3; count = 0 } ∷ record { first = 3; count = 1 } ∷ []) ≡ 1 ∷ 2 ∷ 3 ∷ []
unfolding numbers
touching_ranges = refl

no_pair_of_odd_frames : lowest_pair (1 ∷ 3 ∷ 5 ∷ 7 ∷ []) ≡ None
unfolding lowest_group is_in numbers
no_pair_of_odd_frames = refl

no_pair_from_an_odd_frame : lowest_pair (1 ∷ 2 ∷ 5 ∷ 6 ∷ []) ≡ None
unfolding lowest_group is_in numbers
no_pair_from_an_odd_frame = refl

pair_from_an_even_frame : lowest_pair (numbers 1 9) ≡ Some 2
unfolding lowest_group is_in numbers
pair_from_an_even_frame = refl

pair_after_a_gap : lowest_pair (0 ∷ 2 ∷ 3 ∷ 4 ∷ []) ≡ Some 2
unfolding lowest_group is_in numbers
pair_after_a_gap = refl

group_of_four : lowest_group 4 (numbers 1 11) ≡ Some 4
unfolding lowest_group is_in numbers
group_of_four = refl

group_across_a_gap : lowest_group 4 (4 ∷ 5 ∷ 6 ∷ 8 ∷ 9 ∷ 10 ∷ 11 ∷ []) ≡ Some 8
unfolding lowest_group is_in numbers
group_across_a_gap = refl

run_after_shorter_ones : lowest_run 3 (1 ∷ 3 ∷ 4 ∷ 6 ∷ 7 ∷ 8 ∷ 9 ∷ []) ≡ Some 6
unfolding lowest_run is_in numbers
run_after_shorter_ones = refl

no_run_across_gaps : lowest_run 3 (1 ∷ 2 ∷ 4 ∷ 5 ∷ 7 ∷ []) ≡ None
unfolding lowest_run is_in numbers
no_run_across_gaps = refl

left_of_a_pair : without 2 2 (numbers 1 9) ≡ 1 ∷ 4 ∷ 5 ∷ 6 ∷ 7 ∷ 8 ∷ 9 ∷ []
unfolding without numbers
left_of_a_pair = refl

left_of_an_empty_range : without 2 0 (numbers 1 3) ≡ numbers 1 3
unfolding without numbers
left_of_an_empty_range = refl

lowest_of_none : lowest_frame [] ≡ None
lowest_of_none = refl

all_of_eight_frames : lowest_frame (without 0 8 (numbers 0 8)) ≡ None
unfolding without numbers
all_of_eight_frames = refl
