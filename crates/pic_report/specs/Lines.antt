-- The lines of a call: this project's profile. Numbers are plain decimal, and each line ends with
-- a line feed.
use Rattle.std.specs.Prelude.{ℕ, ℤ, List, [], ◌++◌, ◌&&◌, map, codes, nat_le, if◌then◌else◌}
use Rattle.std.specs.Fmt.{decimal, signed_decimal}
use Rattle.std.specs.Str.{chars}
use Rattle.pic_deck.specs.declared.refusal.Refusal.{Refusal}
use Rattle.pic_deck.specs.declared.refusal.Refusal.TheVariants.{Text, Unknown, Missing, Kind, Limit, Name}
use Rattle.pic_num.specs.Space.{triple}
use Rattle.pic_charge.specs.declared.breaks.Break.{Break}
use Rattle.pic_report.specs.declared.ended.Ended.{Ended}
use Rattle.pic_report.specs.declared.ended.Ended.TheVariants as ended

unfoldable pub usage_line : List ℕ
usage_line = codes "usage: pic [check | run [--workers N] | verify | demo SEED [--workers N] | upgrade | resume --steps M [--workers N] | probe [--workers N]]\n"

unfoldable pub read_fault_line : List ℕ
read_fault_line = codes "read fault\n"

unfoldable pub check_line : ℕ → List ℕ
check_line particles = codes "ok " ++ decimal particles ++ codes " particles\n"

-- a node where the divergence of E and the charge differ, and both
unfoldable pub break_tail : Break → List ℕ
break_tail b =
    decimal (triple b.node).x
    ++ codes " "
    ++ decimal (triple b.node).y
    ++ codes " "
    ++ decimal (triple b.node).z
    ++ codes " div "
    ++ signed_decimal b.div
    ++ codes " rho "
    ++ signed_decimal b.rho
    ++ codes "\n"

unfoldable pub gauss_line : Break → List ℕ
gauss_line b = codes "gauss " ++ break_tail b

unfoldable pub verified_line : ℕ → List ℕ
verified_line frames = codes "verified " ++ decimal frames ++ codes " frames\n"

unfoldable pub upgraded_line : ℕ → List ℕ
upgraded_line frames = codes "upgraded " ++ decimal frames ++ codes " frames\n"

unfoldable pub bad_dump_line : ℕ → ℕ → List ℕ
bad_dump_line place cause = codes "bad dump " ++ decimal place ++ codes " " ++ decimal cause ++ codes "\n"

unfoldable pub broken_line : ℕ → Break → List ℕ
broken_line frame b = codes "broken frame " ++ decimal frame ++ codes " node " ++ break_tail b

-- a character of a path, as it is from `!` to `~`, and `?` in place of any other
abbrev pub printed_char : ℕ → ℕ
printed_char c = if nat_le 33 c && nat_le c 126 then c else 63

unfoldable pub printed_path : List ℕ → List ℕ
printed_path path = map printed_char (chars path)

-- a refusal that names a path
unfoldable pub path_line : List ℕ → List ℕ → List ℕ → List ℕ
path_line head path tail = head ++ printed_path path ++ tail

-- the number that isn't within its limits, and the limits
unfoldable pub limit_tail : ℤ → ℤ → ℤ → List ℕ
limit_tail value low high =
    codes " "
    ++ signed_decimal value
    ++ codes " "
    ++ signed_decimal low
    ++ codes " "
    ++ signed_decimal high
    ++ codes "\n"

unfoldable pub refused_line : Refusal → List ℕ
refused_line Text = codes "refused 1 text\n"
refused_line (Unknown path) = path_line (codes "refused 2 unknown ") path (codes "\n")
refused_line (Missing path) = path_line (codes "refused 3 missing ") path (codes "\n")
refused_line (Kind path) = path_line (codes "refused 4 kind ") path (codes "\n")
refused_line (Limit path value low high) =
    path_line (codes "refused 5 limit ") path (limit_tail value low high)
refused_line (Name path) = path_line (codes "refused 6 name ") path (codes "\n")

-- the line of an answer that comes before its command has put anything
abbrev pub early_line : Ended → List ℕ
early_line ended.Usage = usage_line
early_line ended.ReadFault = read_fault_line
early_line (ended.Refused refusal) = refused_line refusal
early_line (ended.Gauss b) = gauss_line b
early_line (ended.BadDump place cause) = bad_dump_line place cause
early_line (ended.Broken frame b) = broken_line frame b
early_line answer = []
