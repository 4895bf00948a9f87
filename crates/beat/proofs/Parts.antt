-- The bytes of one beat among those of a message.
use Rattle.std.proofs.Common.{◌≡◌, ℕ, ◌+◌, ◌-◌, ◌*◌, ◌≤◌, List, ◌++◌, length, take, drop, ap, ◌∙◌, arith}
use borrow.Rule.Slice.PartMut.{put_mid}
use Rattle.std.proofs.lemmas.List.Edits.{length-between}
use Rattle.std.proofs.lemmas.List.{drop-drop}
use Rattle.beat.specs.Lanes.{lane_bytes, put}

-- what a write to the part of a beat leaves
pub put_part : (f k j l : ℕ) (xs ys : List ℕ) → j * k + k ≤ length xs → ys ≡ lane_bytes f (length (take (j * k + k - j * k) (drop (j * k) xs))) l → put_mid (j * k) (j * k + k - j * k) xs ys ≡ put f k j l xs
put_part f k j l xs ys room e =
    let at = j * k in
    let long : length (take (at + k - at) (drop at xs)) ≡ k = length-between xs at (at + k) room ∙ omega arith in
    let got = e ∙ ap (λ n. lane_bytes f n l) long in
    let rest = drop-drop (at + k - at) at xs ∙ ap (λ n. drop n xs) (omega arith) in
    λ i. take at xs ++ (got i ++ rest i)
