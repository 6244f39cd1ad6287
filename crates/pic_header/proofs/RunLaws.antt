-- How many bytes the parts of a header take, and that no place lies before the start.
use Rattle.std.proofs.Common.{◌≡◌, ℕ, ℤ, zero, suc, ◌+◌, ◌*◌, ◌≤◌, eqb, Bool, true, false, List, [], ◌∷◌, ◌++◌, length, Ok, Err, inl, inr}
use Rattle.std.proofs.Common.{refl, sym, ap, subst, ◌∙◌, arith, length-append}
use Rattle.std.specs.Prelude.{if◌then◌else◌, sum_by}
use Rattle.std.proofs.Math.Nat.{mul_comm}
use Rattle.std.proofs.lemmas.List.Sums.{sum_by_push}
use Rattle.std.proofs.lemmas.Bool.{cases_lt, lt-ltb, le-ltb}
use Rattle.pic_fields.specs.Parser.{Input, fault, Parsed, Parser, done, after, ◌>>=◌, mapped, field, tested_by, checked, each}
use Rattle.pic_fields.specs.Number.{byte_at, u32_at, i32_at, i64_at, within, letter, exactly, between, at_most}
use Rattle.pic_fields.proofs.SpellLaws.{same_read, bind_parts}
use Rattle.pic_header.specs.Header.{HeaderView}
use Rattle.pic_grid.specs.declared.loops.Loop.{Loop}
use Rattle.pic_grid.specs.Species.{HeadView}
use Rattle.pic_num.specs.Limits.{allowance_of}
use Rattle.pic_num.specs.Space.{Triple}
use Rattle.pic_header.specs.HeaderText.{form_length}
use Rattle.pic_header.specs.HeaderFields.{version_at, mark_at, axis_at, cells_at, mult_at, scales_at, front_at, form_of_1, form_of_2, form_at, kind_at, name_at}
use Rattle.pic_header.specs.HeaderFields.{head_at, heads_at, loop_axis_at, loop_cell_at, drive_at, numbers_at, wave_at, loop_of, loop_at, loops_at}
use Rattle.pic_header.specs.HeaderFields.{out_of_limits, loop_length, loops_length, header_of, header_at, header_length}

-- a value lies n bytes on, and a fault not before the start
abbrev pub RunsTo : {A : Type 0} → ℕ → ℕ → Parsed A → Type 0
RunsTo s n (Ok x) = x.1.place ≡ s + n
RunsTo s n (Err f) = s ≤ f.place

pub record Runs {A : Type 0} (p : Parser A) (n : ℕ) : Type 0 where
  pub on : (i : Input) → RunsTo i.place n (p i)

-- neither lies before the start
abbrev pub IsNotBefore : {A : Type 0} → ℕ → Parsed A → Type 0
IsNotBefore s (Ok x) = s ≤ x.1.place
IsNotBefore s (Err f) = s ≤ f.place

pub record GoesOn {A : Type 0} (p : Parser A) : Type 0 where
  pub on : (i : Input) → IsNotBefore i.place (p i)

not_before : {A : Type 0} (s n : ℕ) (r : Parsed A) → RunsTo s n r → IsNotBefore s r
not_before s n (Ok x) first = omega (arith, first)
not_before s n (Err f) first = first

pub goes_on_by : {A : Type 0} {p : Parser A} (n : ℕ) → Runs p n → GoesOn p
goes_on_by {p = p} n first = record { on = λ i. not_before i.place n (p i) (first.on i) }

pub goes_done : {A : Type 0} (a : A) → GoesOn (done a)
unfolding done
goes_done a = record { on = λ i. omega arith }

goes_further : {A : Type 0} (s m : ℕ) (r : Parsed A) → s ≤ m → IsNotBefore m r → IsNotBefore s r
goes_further s m (Ok x) first second = omega (arith, first, second)
goes_further s m (Err f) first second = omega (arith, first, second)

goes_after : {A B : Type 0} (s : ℕ) (r : Parsed A) (f : A → Parser B) → ((a : A) → GoesOn (f a)) → IsNotBefore s r → IsNotBefore s (after r f)
goes_after s (Ok x) f second first = goes_further s x.1.place (f x.0 x.1) first ((second x.0).on x.1)
goes_after s (Err e) f second first = first

pub goes_then : {A B : Type 0} {p : Parser A} {f : A → Parser B} → GoesOn p → ((a : A) → GoesOn (f a)) → GoesOn (p >>= f)
unfolding ◌>>=◌
goes_then {p = p} {f = f} first second = record { on = λ i. goes_after i.place (p i) f second (first.on i) }

pub goes_each : {A : Type 0} (f : List A → Parser A) (k : ℕ) → ((xs : List A) → GoesOn (f xs)) → GoesOn (each k f)
unfolding each
goes_each f zero each_one = goes_done []
goes_each f (suc k) each_one = goes_then (goes_each f k each_one) (λ xs. goes_then (each_one xs) (λ x. goes_done (xs ++ x ∷ [])))

-- one part of so many bytes, and then another
runs_done : {A : Type 0} (a : A) → Runs (done a) 0
unfolding done
runs_done a = record { on = λ i. omega arith }

runs_further : {A : Type 0} (s n m k : ℕ) (r : Parsed A) → k ≡ s + n → RunsTo k m r → RunsTo s (n + m) r
runs_further s n m k (Ok x) first second = omega (arith, first, second)
runs_further s n m k (Err f) first second = omega (arith, first, second)

runs_after : {A B : Type 0} (s n m : ℕ) (r : Parsed A) (f : A → Parser B) → ((a : A) → Runs (f a) m) → RunsTo s n r → RunsTo s (n + m) (after r f)
runs_after s n m (Ok x) f second first = runs_further s n m x.1.place (f x.0 x.1) first ((second x.0).on x.1)
runs_after s n m (Err e) f second first = first

pub runs_then : {A B : Type 0} {p : Parser A} {f : A → Parser B} (n m : ℕ) → Runs p n → ((a : A) → Runs (f a) m) → Runs (p >>= f) (n + m)
unfolding ◌>>=◌
runs_then {p = p} {f = f} n m first second = record { on = λ i. runs_after i.place n m (p i) f second (first.on i) }

runs_so : {A : Type 0} {p : Parser A} {n m : ℕ} → n ≡ m → Runs p n → Runs p m
runs_so {p = p} is first = subst (Runs p) is first

runs_mapped : {A B : Type 0} {p : Parser A} (f : A → B) (n : ℕ) → Runs p n → Runs (mapped f p) n
unfolding mapped
runs_mapped f n first = runs_so (omega arith) (runs_then n 0 first (λ a. runs_done (f a)))

to_field : (n : ℕ) (i : Input) → RunsTo i.place n (field n i)
unfolding field
to_field n i = elim (cases_lt (length i.bytes) n) [
  | inl short ↦ rw (lt-ltb (length i.bytes) n short) (omega arith)
  | inr long ↦ rw (le-ltb (length i.bytes) n long) refl
]

runs_field : (n : ℕ) → Runs (field n) n
runs_field n = record { on = to_field n }

to_choice : {A : Type 0} (s n cause : ℕ) (x : A × Input) (passes : Bool) → x.1.place ≡ s + n → RunsTo s n (if passes then Ok x else Err (fault s cause))
to_choice s n cause x true first = first
to_choice s n cause x false first = omega arith

to_tested : {A : Type 0} (s n cause : ℕ) (test : A → Bool) (r : Parsed A) → RunsTo s n r → RunsTo s n (tested_by s cause test r)
to_tested s n cause test (Ok x) first = to_choice s n cause x (test x.0) first
to_tested s n cause test (Err e) first = first

runs_checked : {A : Type 0} {p : Parser A} (cause : ℕ) (test : A → Bool) (n : ℕ) → Runs p n → Runs (checked cause test p) n
unfolding checked
runs_checked {p = p} cause test n first = record { on = λ i. to_tested i.place n cause test (p i) (first.on i) }

runs_each : {A : Type 0} (f : List A → Parser A) (n k : ℕ) → ((xs : List A) → Runs (f xs) n) → Runs (each k f) (k * n)
unfolding each
runs_each f n zero each_one = runs_so (omega arith) (runs_done [])
runs_each f n (suc k) each_one =
    runs_so (omega arith) (runs_then (k * n) (n + 0) (runs_each f n k each_one)
    (λ xs. runs_then n 0 (each_one xs) (λ x. runs_done (xs ++ x ∷ []))))

-- the parts of a header
pub runs_within : (cause low high : ℕ) → Runs (within cause low high) 4
unfolding within u32_at
runs_within cause low high = runs_checked cause _ 4 (runs_mapped _ 4 (runs_field 4))

runs_letter : (cause : ℕ) (text before : List ℕ) → Runs (letter cause text before) 1
unfolding letter byte_at
runs_letter cause text before = runs_checked cause _ 1 (runs_mapped _ 1 (runs_field 1))

pub runs_exactly : (cause : ℕ) (text : List ℕ) → Runs (exactly cause text) (length text * 1)
unfolding exactly
runs_exactly cause text = runs_each (letter cause text) 1 (length text) (runs_letter cause text)

runs_mult : Runs mult_at 8
unfolding mult_at between i32_at
runs_mult = runs_then 4 4 (runs_checked _ _ 4 (runs_mapped _ 4 (runs_field 4))) (λ n. runs_then 4 0 (runs_within _ _ _) (λ k. runs_done _))

runs_version : Runs version_at 1
unfolding version_at byte_at
runs_version = runs_mapped _ 1 (runs_checked _ _ 1 (runs_mapped _ 1 (runs_field 1)))

pub runs_mark : Runs mark_at 8
unfolding mark_at
runs_mark = runs_then 7 1 (runs_exactly _ _) (λ letters. runs_version)

pub runs_axis : (version : ℕ) → Runs (axis_at version) 4
unfolding axis_at
runs_axis version = runs_within _ _ _

pub runs_cells : (version : ℕ) → Runs (cells_at version) 12
unfolding cells_at
runs_cells version =
    runs_then 4 8 (runs_axis version) (λ x. runs_then 4 4 (runs_axis version) (λ y. runs_then 4 0 (runs_axis version) (λ z. runs_done _)))

pub runs_scales : Runs scales_at 32
unfolding scales_at
runs_scales =
    runs_then 8 24 runs_mult (λ a. runs_then 8 16 runs_mult (λ b. runs_then 8 8 runs_mult (λ c. runs_then 8 0 runs_mult (λ d. runs_done _))))

pub runs_front : (version : ℕ) → Runs (front_at version) 52
unfolding front_at
runs_front version =
    runs_then 12 40 (runs_cells version)
    (λ cells. runs_then 4 36 (runs_within _ _ _) (λ steps. runs_then 4 32 (runs_within _ _ _) (λ every. runs_then 32 0 runs_scales (λ scales. runs_done _))))

runs_form_of_2 : Runs form_of_2 12
unfolding form_of_2
runs_form_of_2 =
    runs_then 4 8 (runs_within _ _ _) (λ bits. runs_then 4 4 (runs_within _ _ _) (λ filter. runs_then 4 0 (runs_within _ _ _) (λ loops. runs_done _)))

pub form_few : (version : ℕ) → form_length version ≤ 12
form_few version = go (eqb version 1)
  where
    go : (first : Bool) → (if first then 0 else 12) ≤ 12
    go true = omega arith
    go false = omega arith

pub runs_form : (version : ℕ) → Runs (form_at version) (form_length version)
unfolding form_at
runs_form version = go (eqb version 1)
  where
    go : (first : Bool) → Runs (if first then done (form_of_1 version) else form_of_2) (if first then 0 else 12)
    go true = runs_done _
    go false = runs_form_of_2

pub runs_kind : Runs kind_at 24
unfolding kind_at between i32_at
runs_kind =
    runs_then 4 20 (runs_checked _ _ 4 (runs_mapped _ 4 (runs_field 4)))
    (λ charge. runs_then 4 16 (runs_within _ _ _) (λ mass. runs_then 8 8 runs_mult (λ kick. runs_then 8 0 runs_mult (λ turn. runs_done _))))

pub runs_name : (before : List HeadView) → Runs (name_at before) 32
unfolding name_at
runs_name before = runs_mapped _ 32 (runs_checked _ _ 32 (runs_field 32))

pub runs_head : (most : ℕ) (before : List HeadView) → Runs (head_at most before) 60
unfolding head_at
runs_head most before =
    runs_then 32 28 (runs_name before) (λ name. runs_then 24 4 runs_kind (λ kind. runs_then 4 0 (runs_within _ _ _) (λ count. runs_done _)))

pub goes_heads : (most : ℕ) → GoesOn (heads_at most)
unfolding heads_at
goes_heads most = goes_then (goes_on_by 4 (runs_within _ _ _)) (λ count. goes_each (head_at most) count (λ hs. goes_on_by 60 (runs_head most hs)))

-- the parts of a loop
pub runs_loop_axis : Runs loop_axis_at 4
unfolding loop_axis_at
runs_loop_axis = runs_mapped _ 4 (runs_within _ _ _)

pub runs_loop_cell : (n : Triple) → Runs (loop_cell_at n) 12
unfolding loop_cell_at
runs_loop_cell n =
    runs_then 4 8 (runs_within _ _ _) (λ x. runs_then 4 4 (runs_within _ _ _) (λ y. runs_then 4 0 (runs_within _ _ _) (λ z. runs_done _)))

pub runs_drive : Runs drive_at 8
unfolding drive_at at_most i64_at
runs_drive = runs_checked _ _ 8 (runs_mapped _ 8 (runs_field 8))

pub goes_numbers : (count : ℕ) → GoesOn (numbers_at count)
unfolding numbers_at
goes_numbers count = goes_each (λ before. drive_at) count (λ before. goes_on_by 8 runs_drive)

pub goes_wave : GoesOn wave_at
unfolding wave_at
goes_wave = goes_then (goes_on_by 4 (runs_within _ _ _)) goes_numbers

pub goes_loop : (n : Triple) → GoesOn (loop_at n)
unfolding loop_at
goes_loop n =
    goes_then (goes_on_by 4 runs_loop_axis) (λ axis. goes_then (goes_on_by 12 (runs_loop_cell n)) (λ cell. goes_then goes_wave (λ wave. goes_done _)))

pub goes_loops : (n : Triple) (count : ℕ) → GoesOn (loops_at n count)
unfolding loops_at
goes_loops n count = goes_each (λ before. loop_at n) count (λ before. goes_loop n)

-- so many values are as many
each_count : {A : Type 0} (f : List A → Parser A) (k : ℕ) (i j : Input) (xs : List A) → each k f i ≡ Ok (xs, j) → length xs ≡ k
unfolding each done
each_count f zero i j xs is = ap (λ l. length l) (sym (same_read [] xs i j is).0)
each_count f (suc k) i j xs is =
    let (ys, m, e1, r1) = bind_parts (each k f) (λ ys. f ys >>= (λ y. done (ys ++ y ∷ []))) i j xs is in
    let (y, n, e2, r2) = bind_parts (f ys) (λ y. done (ys ++ y ∷ [])) m j xs r1 in
    let before = each_count f k i m ys e1 in
    let size = length-append ys (y ∷ []) in
    let value : length (ys ++ y ∷ []) ≡ length xs = ap (λ l. length l) (same_read (ys ++ y ∷ []) xs n j r2).0 in
    omega (arith, before, size, value)

place_by : {A : Type 0} (p : Parser A) (n : ℕ) (i j : Input) (a : A) → Runs p n → p i ≡ Ok (a, j) → j.place ≡ i.place + n
place_by p n i j a runs is = subst (RunsTo i.place n) is (runs.on i)

-- a number of values of one length, and these
counted_end : {A : Type 0} (low high n : ℕ) (f : List A → Parser A) → ((xs : List A) → Runs (f xs) n) → (i j : Input) (xs : List A)
    → (within out_of_limits low high >>= (λ count. each count f)) i ≡ Ok (xs, j) → j.place ≡ i.place + 4 + n * length xs
counted_end low high n f each_one i j xs is =
    let (count, k, e1, r1) = bind_parts (within out_of_limits low high) (λ count. each count f) i j xs is in
    let first = place_by (within _ _ _) 4 i k count (runs_within _ _ _) e1 in
    let second = place_by (each count f) (count * n) k j xs (runs_each f n count each_one) r1 in
    let size = each_count f count k j xs r1 in
    let all : count * n ≡ n * length xs = ap (λ c. c * n) (sym size) ∙ mul_comm (length xs) n in
    omega (arith, first, second, all)

heads_end : (most : ℕ) (i j : Input) (heads : List HeadView) → heads_at most i ≡ Ok (heads, j) → j.place ≡ i.place + 4 + 60 * length heads
unfolding heads_at
heads_end most i j heads is = counted_end 0 _ 60 (head_at most) (runs_head most) i j heads is

wave_end : (i j : Input) (wave : List ℤ) → wave_at i ≡ Ok (wave, j) → j.place ≡ i.place + 4 + 8 * length wave
unfolding wave_at numbers_at
wave_end i j wave is = counted_end 1 _ 8 (λ before. drive_at) (λ before. runs_drive) i j wave is

loop_end : (n : Triple) (i j : Input) (l : Loop) → loop_at n i ≡ Ok (l, j) → j.place ≡ i.place + loop_length l
unfolding loop_at done
loop_end n i j l is =
    let (axis, i1, e1, r1) = bind_parts loop_axis_at _ i j l is in
    let (cell, i2, e2, r2) = bind_parts (loop_cell_at n) _ i1 j l r1 in
    let (wave, i3, e3, r3) = bind_parts wave_at (λ wave. done (loop_of axis cell wave)) i2 j l r2 in
    let (value, here) = same_read _ l i3 j r3 in
    let size : 20 + 8 * length wave ≡ loop_length l = ap (λ (m : Loop). loop_length m) value in
    let end : i3.place ≡ j.place = ap (λ (k : Input). k.place) here in
    let a : i1.place ≡ i.place + 4 = place_by _ 4 i i1 axis runs_loop_axis e1 in
    let b : i2.place ≡ i1.place + 12 = place_by _ 12 i1 i2 cell (runs_loop_cell n) e2 in
    let c : i3.place ≡ i2.place + 4 + 8 * length wave = wave_end i2 i3 wave e3 in
    omega (arith, a, b, c, size, end)

-- values of lengths of their own
each_end : {A : Type 0} (f : List A → Parser A) (size : A → ℕ) (k : ℕ)
    → ((xs : List A) (i j : Input) (x : A) → f xs i ≡ Ok (x, j) → j.place ≡ i.place + size x)
    → (i j : Input) (xs : List A) → each k f i ≡ Ok (xs, j) → j.place ≡ i.place + sum_by size xs
unfolding each done
each_end f size zero each_one i j xs is =
    let (value, here) = same_read [] xs i j is in
    let none : 0 ≡ sum_by size xs = ap (sum_by size) value in
    let end : i.place ≡ j.place = ap (λ (k : Input). k.place) here in
    omega (arith, none, end)
each_end f size (suc k) each_one i j xs is =
    let (ys, m, e1, r1) = bind_parts (each k f) (λ ys. f ys >>= (λ y. done (ys ++ y ∷ []))) i j xs is in
    let (y, n, e2, r2) = bind_parts (f ys) (λ y. done (ys ++ y ∷ [])) m j xs r1 in
    let (value, here) = same_read (ys ++ y ∷ []) xs n j r2 in
    let first = each_end f size k each_one i m ys e1 in
    let second = each_one ys m n y e2 in
    let more = sum_by_push size ys y in
    let all : sum_by size (ys ++ y ∷ []) ≡ sum_by size xs = ap (sum_by size) value in
    let end : n.place ≡ j.place = ap (λ (k : Input). k.place) here in
    omega (arith, first, second, more, all, end)

loops_end : (n : Triple) (count : ℕ) (i j : Input) (loops : List Loop) → loops_at n count i ≡ Ok (loops, j) → j.place ≡ i.place + loops_length loops
unfolding loops_at
loops_end n count i j loops is = each_end (λ before. loop_at n) loop_length count (λ before. loop_end n) i j loops is

-- what follows a header
pub header_place : (i j : Input) (h : HeaderView) → header_at i ≡ Ok (h, j) → j.place ≡ i.place + header_length h
unfolding header_at done
header_place i j h is =
    let (version, i1, e1, r1) = bind_parts mark_at _ i j h is in
    let (front, i2, e2, r2) = bind_parts (front_at version) _ i1 j h r1 in
    let (form, i3, e3, r3) = bind_parts (form_at version) _ i2 j h r2 in
    let (heads, i4, e4, r4) = bind_parts (heads_at (allowance_of version).particles) _ i3 j h r3 in
    let (loops, i5, e5, r5) = bind_parts (loops_at front.cells form.loops) (λ loops. done (header_of version front form heads loops)) i4 j h r4 in
    let (value, here) = same_read _ h i5 j r5 in
    let size : 64 + form_length version + 60 * length heads + loops_length loops ≡ header_length h = ap (λ (g : HeaderView). header_length g) value in
    let end : i5.place ≡ j.place = ap (λ (k : Input). k.place) here in
    let a : i1.place ≡ i.place + 8 = place_by _ 8 i i1 version runs_mark e1 in
    let b : i2.place ≡ i1.place + 52 = place_by _ 52 i1 i2 front (runs_front version) e2 in
    let c : i3.place ≡ i2.place + form_length version = place_by _ (form_length version) i2 i3 form (runs_form version) e3 in
    let d : i4.place ≡ i3.place + 4 + 60 * length heads = heads_end _ i3 i4 heads e4 in
    let e : i5.place ≡ i4.place + loops_length loops = loops_end _ _ i4 i5 loops e5 in
    omega (arith, a, b, c, d, e, size, end)
