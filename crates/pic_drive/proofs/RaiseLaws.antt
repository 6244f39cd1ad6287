-- The current of a loop, added edge by edge.
use Rattle.std.proofs.Common.{◌≡◌, ℕ, ◌+◌, ◌*◌, ◌<◌, ◌≤◌, List, length, get_or, take, refl, sym, ◌∙◌, ap, subst, unsigned_abs, arith}
use Rattle.std.proofs.Math.IntN.{ℤ, ◌+ℤ◌, neg_ℤ}
use Rattle.std.proofs.lemmas.List.Elements.{All-get_or}
use Rattle.pic_num.specs.declared.axis.Axis.{Axis}
use Rattle.pic_num.specs.Limits.{most_value, most_loops}
use Rattle.pic_num.specs.Space.{Triple, triple, next_axis}
use Rattle.pic_block.specs.Cells.{IsWithin}
use Rattle.pic_grid.specs.declared.loops.Loop.{Loop}
use Rattle.pic_grid.specs.Differences.{up, curl_b}
use Rattle.pic_grid.specs.Lattice.{Field, EachAtMost, field_of}
use Rattle.pic_grid.specs.Loops.{IsLoop, AreLoops}
use Rattle.pic_drive.specs.Drive.{wave_at, only_there, part_of, driven, most_driven, plus}
use Rattle.pic_drive.proofs.CurlLaws.{curl_only, curl_plus, curl_same, curl_size}
use Rattle.pic_drive.proofs.DriveLaws.{driven_more, drive_size}
use Rattle.pic_drive.proofs.OnlyLaws.{only_size}
use Rattle.pic_drive.proofs.PlusLaws.{plus_twice, plus_given, plus_small, given_small}

-- one edge is added to small values
pub edge_small : (f g : Field) (a : Axis) (p : Triple) (v : ℤ) (m k most : ℕ) → g ≡ plus f (only_there a p v) → EachAtMost m f → unsigned_abs v ≤ k
    → m + k ≤ most → EachAtMost most g
edge_small f g a p v m k most is small value room =
    subst (EachAtMost most) (sym is) (plus_small f (only_there a p v) m k most small (λ b q. only_size a p v b q k value) room)

-- four edges are those of a face
pub four_edges : (f : Field) (a : Axis) (p : Triple) (v : ℤ) → IsWithin p f.cells
    → plus (plus (plus (plus f (only_there (next_axis a) p v)) (only_there (next_axis a) (up f.cells (next_axis (next_axis a)) p) (neg_ℤ v)))
    (only_there (next_axis (next_axis a)) p (neg_ℤ v))) (only_there (next_axis (next_axis a)) (up f.cells (next_axis a) p) v)
    ≡ plus f (curl_b f.cells (only_there a p v))
four_edges f a p v within =
    let s = next_axis a in
    let t = next_axis s in
    let one = only_there s p v in
    let two = only_there s (up f.cells t p) (neg_ℤ v) in
    let three = only_there t p (neg_ℤ v) in
    let four = only_there t (up f.cells s p) v in
    plus_twice (plus (plus f one) two) three four (λ b q. three b q +ℤ four b q) (λ b q w. refl)
    ∙ plus_twice (plus f one) two (λ b q. three b q +ℤ four b q) (λ b q. two b q +ℤ (three b q +ℤ four b q)) (λ b q w. refl)
    ∙ plus_twice f one (λ b q. two b q +ℤ (three b q +ℤ four b q)) (curl_b f.cells (only_there a p v)) (λ b q w. sym (curl_only f.cells a p v b q within w))

-- as the code adds them: the axes and the cells by their own names
pub raised_by : (f0 f1 f2 f3 f4 : Field) (a s t : Axis) (p q r : Triple) (u v w : ℤ) → s ≡ next_axis a → t ≡ next_axis s
    → q ≡ up f0.cells t p → r ≡ up f0.cells s p → u ≡ v → w ≡ neg_ℤ v → IsWithin p f0.cells
    → f1 ≡ plus f0 (only_there s p u) → f2 ≡ plus f1 (only_there s q w) → f3 ≡ plus f2 (only_there t p w) → f4 ≡ plus f3 (only_there t r u)
    → f4 ≡ plus f0 (curl_b f0.cells (only_there a p v))
raised_by f0 f1 f2 f3 f4 a s t p q r u v w s_is t_is q_is r_is u_is w_is within one two three four =
    let third : t ≡ next_axis (next_axis a) = t_is ∙ ap next_axis s_is in
    let up_third : q ≡ up f0.cells (next_axis (next_axis a)) p = q_is ∙ ap (λ (x : Axis). up f0.cells x p) third in
    let up_second : r ≡ up f0.cells (next_axis a) p = r_is ∙ ap (λ (x : Axis). up f0.cells x p) s_is in
    let first : f1 ≡ plus f0 (only_there (next_axis a) p v) = one ∙ (λ i. plus f0 (only_there (s_is i) p (u_is i))) in
    let second = two ∙ (λ i. plus (first i) (only_there (s_is i) (up_third i) (w_is i))) in
    let last = three ∙ (λ i. plus (second i) (only_there (third i) p (w_is i))) in
    four ∙ (λ i. plus (last i) (only_there (third i) (up_second i) (u_is i))) ∙ four_edges f0 a p v within

-- the drives of one loop more
more_driven : (n : Triple) (loops : List Loop) (step i : ℕ) (one : Loop) → i < length loops → one ≡ get_or loops i one → (a : Axis) (p : Triple)
    → driven (take i loops) step a p +ℤ part_of step a p one ≡ driven (take (i + 1) loops) step a p
more_driven n loops step i one below is a p =
    ap (λ (l : Loop). driven (take i loops) step a p +ℤ part_of step a p l) is ∙ sym (driven_more loops step i one below a p)

-- the current of one loop more is added
pub loop_raised : (f g h : Field) (loops : List Loop) (step i : ℕ) (one : Loop) → i < length loops → one ≡ get_or loops i one
    → g ≡ plus f (curl_b f.cells (driven (take i loops) step)) → h ≡ plus g (curl_b g.cells (λ a p. part_of step a p one))
    → h ≡ plus f (curl_b f.cells (driven (take (i + 1) loops) step))
loop_raised f g h loops step i one below is before after =
    let n = f.cells in
    let all = driven (take i loops) step in
    let own : Axis → Triple → ℤ = λ a p. part_of step a p one in
    after ∙ (λ j. plus (before j) (curl_b (before j).cells own))
    ∙ plus_twice f (curl_b n all) (curl_b n own) (curl_b n (driven (take (i + 1) loops) step)) (λ a p w.
    sym (curl_plus n all own a p) ∙ curl_same n (λ b q. all b q +ℤ own b q) (driven (take (i + 1) loops) step) (more_driven n loops step i one below is) a p)

-- E stays small
pub raised_small : (f g : Field) (loops : List Loop) (step i most : ℕ) → AreLoops f.cells most_loops loops → i ≤ length loops → EachAtMost most_value f
    → g ≡ plus f (curl_b f.cells (driven (take i loops) step)) → most_value + 4 * most_driven ≤ most → EachAtMost most g
raised_small f g loops step i most are within small is room =
    subst (EachAtMost most) (sym is)
    (plus_small f (curl_b f.cells (driven (take i loops) step)) most_value (4 * most_driven) most small
    (curl_size f.cells (driven (take i loops) step) most_driven (λ a p. drive_size f.cells loops step are a p i within)) room)

-- what one loop more drives
pub loop_driven : (side : ℕ) (n parts : Triple) (g h : Field) (loops : List Loop) (step i : ℕ) (one : Loop) (v : ℤ) → i < length loops
    → one ≡ get_or loops i one → v ≡ wave_at step one → g ≡ field_of side n parts (driven (take i loops) step)
    → h ≡ plus g (only_there one.axis (triple one.cell) v) → h ≡ field_of side n parts (driven (take (i + 1) loops) step)
loop_driven side n parts g h loops step i one v below is value before after =
    after ∙ (λ j. plus (before j) (only_there one.axis (triple one.cell) (value j)))
    ∙ plus_given side n parts (driven (take i loops) step) (λ a p. part_of step a p one) (driven (take (i + 1) loops) step) (λ a p w.
    more_driven n loops step i one below is a p)

-- which stays small too
pub driven_small : (side : ℕ) (n parts : Triple) (g : Field) (loops : List Loop) (step i most : ℕ) → AreLoops n most_loops loops → i ≤ length loops
    → g ≡ field_of side n parts (driven (take i loops) step) → most_driven ≤ most → EachAtMost most g
driven_small side n parts g loops step i most are within is room =
    subst (EachAtMost most) (sym is) (given_small side n parts (driven (take i loops) step) most (λ a p.
    let size = drive_size n loops step are a p i within in omega (arith, size, room)))

-- a loop of the list is within the limits
pub item_good : (n : Triple) (loops : List Loop) (i : ℕ) (one : Loop) → AreLoops n most_loops loops → i < length loops → one ≡ get_or loops i one
    → IsLoop n one
item_good n loops i one are below is = subst (IsLoop n) (sym is) (All-get_or (IsLoop n) loops i one below are.each)
