-- `write_code` meets its contract: the code is made of the cell as it was passed, and stands in the first of the lent bytes where they are enough.
-- Assumes nothing.
use Rattle.std.proofs.Common.{ℕ, List, ◌-◌, ◌≡◌, ◌++◌, ◌∙◌, sym, ap, length, take, drop, to_z-of_z}
use Rattle.std.proofs.Math.Seq.{take-length}
use Rattle.std.proofs.lemmas.List.{length-drop}
use mathlib.Core.Path.{ap₂}
use borrow.Author.Tests.{leb-true}
use Rattle.std.proofs.lemmas.Result.{err_from_is_err_and}
use Rattle.units.proofs.Chains.{link_passed}
use Rattle.grid_codes.proofs.WritingLaws.{coded_most, coded_as, cell_refused, room_refused, enough_room, code_written}
use Rattle.grid_codes.proofs.write_code.Goals as goal

-- the last of 18 bytes, from one of them on
rest_is : (start : ℕ) (xs : List ℕ) → length xs ≡ 18 → take (18 - start) (drop start xs) ≡ drop start xs
rest_is start xs long =
    ap (λ (n : ℕ). take n (drop start xs)) (ap (λ (n : ℕ). n - start) (sym long) ∙ sym (length-drop start xs)) ∙ take-length (drop start xs)

pub returns-in_err-side : goal.returns-in_err-side
returns-in_err-side c =
    let p = err_from_is_err_and c.from_residual.result c.from_residual.ensures.1 in
    let is = rw (to_z-of_z c.ranges.side, to_z-of_z c.ranges.east, to_z-of_z c.ranges.north) at c.in_err-side.ensures.refusal in
    rw (p.1, p.2) (cell_refused _ _ _ _ _ is)

pub put_code-start-requires : goal.put_code-start-requires
put_code-start-requires c =
    let none = rw (to_z-of_z c.ranges.side, to_z-of_z c.ranges.east, to_z-of_z c.ranges.north) at c.in_ok-side.ensures.refusal in
    let is = rw (to_z-of_z c.ranges.side) at c.in_ok-side.ensures.given in
    let e = rw (to_z-of_z c.ranges.east) at c.magnitude.ensures in
    let n = rw (to_z-of_z c.ranges.north) at c.magnitude-2.ensures in
    rw (e, n, coded_as _ _ _ _ is none, sym is) (coded_most _ _ _ _ is none)

pub returns-in_err-unless : goal.returns-in_err-unless
returns-in_err-unless c =
    let p = err_from_is_err_and c.from_residual-in_err-unless.result c.from_residual-in_err-unless.ensures.1 in
    let none = rw (to_z-of_z c.ranges.side, to_z-of_z c.ranges.east, to_z-of_z c.ranges.north) at c.in_ok-side.ensures.refusal in
    let is = rw (to_z-of_z c.ranges.side) at c.in_ok-side.ensures.given in
    let e = rw (to_z-of_z c.ranges.east) at c.magnitude.ensures in
    let n = rw (to_z-of_z c.ranges.north) at c.magnitude-2.ensures in
    let text = rw (e, n) at c.put_code-start.ensures.written ∙ coded_as _ _ _ _ is none in
    let whole = rest_is _ _ c.put_code-start.array_long ∙ text in
    rw (p.1, p.2) (room_refused _ _ _ _ none _ (rw (ap length whole) at c.in_err-unless.ensures))

pub returns : goal.returns
returns c =
    let none = rw (to_z-of_z c.ranges.side, to_z-of_z c.ranges.east, to_z-of_z c.ranges.north) at c.in_ok-side.ensures.refusal in
    let is = rw (to_z-of_z c.ranges.side) at c.in_ok-side.ensures.given in
    let e = rw (to_z-of_z c.ranges.east) at c.magnitude.ensures in
    let n = rw (to_z-of_z c.ranges.north) at c.magnitude-2.ensures in
    let text = rw (e, n) at c.put_code-start.ensures.written ∙ coded_as _ _ _ _ is none in
    let whole = rest_is _ _ c.put_code-start.array_long ∙ text in
    let long = ap length whole in
    let room = link_passed _ 32 (sym (rw long at c.in_ok-unless.ensures)) in
    code_written _ _ _ _
    (enough_room _ _ _ (sym none) _ (leb-true _ _ room.0))
    (ap₂ (λ (l : List ℕ) (k : ℕ). l ++ drop k c.args.out.now) (c.copy_from_slice.ensures.after ∙ whole) long)
    long
