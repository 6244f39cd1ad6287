-- What is read of a header, of any list of numbers: after how many steps a frame is due, and what is left.
use Rattle.std.proofs.Common.{◌≡◌, ℕ, ◌+◌, ◌≤◌, Bool, true, false, eqb, leb, List, drop, Ok, arith}
use Rattle.std.specs.Prelude.{⊤, if◌then◌else◌}
use Rattle.std.proofs.lemmas.Bool.{and_parts, leb-true}
use Rattle.pic_num.specs.Space.{Triple}
use Rattle.pic_grid.specs.Species.{HeadView}
use Rattle.pic_fields.specs.Parser.{Input, input, done}
use Rattle.pic_fields.specs.Number.{byte_at}
use Rattle.pic_fields.proofs.GiveLaws.{Gives, further_place, gives_any, gives_done, gives_then, gives_mapped, gives_checked, gives_field, gives_each}
use Rattle.pic_fields.proofs.GiveLaws.{gives_within, gives_between, gives_at_most, gives_exactly}
use Rattle.pic_header.specs.Header.{HeaderView}
use Rattle.pic_header.specs.HeaderFields.{version_at, mark_at, axis_at, cells_at, mult_at, scales_at}
use Rattle.pic_header.specs.HeaderFields.{front_at, form_of_1, form_of_2, form_at, kind_at, name_of, name_at}
use Rattle.pic_header.specs.HeaderFields.{head_at, heads_at, loop_axis_at, loop_cell_at, drive_at, numbers_at, wave_at, loop_at, loops_at}
use Rattle.pic_header.specs.HeaderFields.{header_at, header_length}
use Rattle.pic_header.proofs.RunLaws.{header_place}

gives_mark : Gives mark_at (λ version. ⊤)
unfolding mark_at version_at byte_at
gives_mark =
    gives_then (gives_exactly _ _) (λ letters is. gives_mapped _ (λ digit is. tt) (gives_any (gives_checked _ _
    (gives_mapped {G = λ digit. ⊤} _ (λ byte is. tt) (gives_field 1)))))

gives_cells : (version : ℕ) → Gives (cells_at version) (λ n. ⊤)
unfolding cells_at axis_at
gives_cells version =
    gives_then (gives_within _ _ _) (λ x is. gives_then (gives_within _ _ _) (λ y is. gives_then (gives_within _ _ _) (λ z is. gives_done _ tt)))

gives_mult : Gives mult_at (λ m. ⊤)
unfolding mult_at
gives_mult = gives_then (gives_between _ _ _) (λ n is. gives_then (gives_within _ _ _) (λ k is. gives_done _ tt))

gives_scales : Gives scales_at (λ s. ⊤)
unfolding scales_at
gives_scales =
    gives_then gives_mult (λ a is. gives_then gives_mult (λ b is. gives_then gives_mult (λ c is. gives_then gives_mult (λ d is. gives_done _ tt))))

gives_front : (version : ℕ) → Gives (front_at version) (λ f. 1 ≤ f.every)
unfolding front_at
gives_front version =
    gives_then (gives_cells version) (λ cells is. gives_then (gives_within _ _ _) (λ steps is. gives_then (gives_within _ 1 _)
    (λ every within. gives_then gives_scales (λ scales is. gives_done _ (leb-true 1 every (and_parts (leb 1 every) (leb every _) within).0)))))

gives_form : (version : ℕ) → Gives (form_at version) (λ form. ⊤)
unfolding form_at form_of_2
gives_form version = go (eqb version 1)
  where
    go : (first : Bool) → Gives (if first then done (form_of_1 version) else form_of_2) (λ form. ⊤)
    go true = gives_done _ tt
    go false =
        gives_then (gives_within _ _ _) (λ bits is. gives_then (gives_within _ _ _) (λ filter is. gives_then (gives_within _ _ _)
        (λ loops is. gives_done _ tt)))

gives_kind : Gives kind_at (λ k. ⊤)
unfolding kind_at
gives_kind =
    gives_then (gives_between _ _ _)
    (λ charge is. gives_then (gives_within _ _ _) (λ mass is. gives_then gives_mult (λ kick is. gives_then gives_mult (λ turn is. gives_done _ tt))))

gives_head : (most : ℕ) (before : List HeadView) → Gives (head_at most before) (λ h. ⊤)
unfolding head_at name_at
gives_head most before =
    gives_then {F = λ name. ⊤} (gives_mapped name_of (λ bytes is. tt) (gives_checked _ _ (gives_field _)))
    (λ name is. gives_then gives_kind (λ kind is. gives_then (gives_within _ _ _) (λ count is. gives_done _ tt)))

gives_heads : (most : ℕ) → Gives (heads_at most) (λ hs. ⊤)
unfolding heads_at
gives_heads most = gives_then (gives_within _ _ _) (λ count is. gives_any (gives_each (head_at most) (λ before h. ⊤) count (gives_head most)))

gives_cell : (n : Triple) → Gives (loop_cell_at n) (λ cell. ⊤)
unfolding loop_cell_at
gives_cell n =
    gives_then (gives_within _ _ _) (λ x is. gives_then (gives_within _ _ _) (λ y is. gives_then (gives_within _ _ _) (λ z is. gives_done _ tt)))

gives_wave : Gives wave_at (λ wave. ⊤)
unfolding wave_at numbers_at drive_at
gives_wave =
    gives_then (gives_within _ _ _) (λ count is. gives_any (gives_each (λ before. _) (λ before v. ⊤) count (λ before. gives_any (gives_at_most _ _))))

gives_loop : (n : Triple) → Gives (loop_at n) (λ l. ⊤)
unfolding loop_at loop_axis_at
gives_loop n =
    gives_then {F = λ axis. ⊤} (gives_mapped _ (λ number is. tt) (gives_within _ _ _))
    (λ axis is. gives_then (gives_cell n) (λ cell is. gives_then gives_wave (λ wave is. gives_done _ tt)))

gives_loops : (n : Triple) (count : ℕ) → Gives (loops_at n count) (λ ls. ⊤)
unfolding loops_at
gives_loops n count = gives_any (gives_each (λ before. loop_at n) (λ before l. ⊤) count (λ before. gives_loop n))

gives_header : Gives header_at (λ h. 1 ≤ h.every)
unfolding header_at
gives_header =
    gives_then gives_mark (λ version is. gives_then (gives_front version) (λ front least. gives_then (gives_form version)
    (λ form is. gives_then (gives_heads _) (λ heads is. gives_then (gives_loops _ _) (λ loops is. gives_done _ least)))))

-- behind the header stands what is that many bytes on
pub header_left : (i j : Input) (h : HeaderView) → header_at i ≡ Ok (h, j)
    → j ≡ input (i.place + header_length h) (drop (header_length h) i.bytes)
header_left i j h is =
    let place = header_place i j h is in
    further_place i j (header_length h) (gives_header.further i j h is) (omega (arith, place))

pub every_least : (i j : Input) (h : HeaderView) → header_at i ≡ Ok (h, j) → 1 ≤ h.every
every_least i j h is = gives_header.is i j h is
