-- `converter::moving::copy_part` meets its contract: what is copied stands there. Assumes nothing.
use lib.Seq.{sets, length-take-le}
use lib.ListN.{length, length-drop}
use native.Mathlib.Omega.{arith}
use Prim.Native.Nat.{ℕ, ◌+◌, ◌-◌, ◌≤◌}
use mathlib.Core.List.{List}
use mathlib.Core.Path.{◌≡◌, ap, ◌∙◌}
use Rattle.record.proofs.WrittenLaws.{part_stored, whole_copied}
use lib.ListN.{take, drop}
use native.Mathlib.Nat.{add-sub_cancel_left}
use Rattle.converter.proofs.moving.copy_part.Goals as goal

pub returns : goal.returns
returns c =
    let a = c.args in
    let s : List ℕ = a.s.now in
    let k : ℕ = a.here + a.size - a.here in
    let fits : k ≤ length (drop a.here s) = omega (arith, c.requires.0, length-drop a.here s) in
    let part : List ℕ = take k (drop a.here s) in
    let long : length part ≡ a.there + a.size - a.there = omega (arith, length-take-le k (drop a.here s) fits) in
    part_stored part a.target.now _ a.there (a.there + a.size - a.there) long (omega (arith, c.requires.1))
    (c.copy_from_slice.ensures.after ∙ whole_copied part _ (omega (arith, ap length c.copy_from_slice.ensures.after, c.copy_from_slice.ensures.len)))
    ∙ ap (λ (n : ℕ). sets a.target.now a.there (take n (drop a.here s))) (add-sub_cancel_left a.here a.size)
