use Rattle.std.proofs.Common.{◌≡◌, ◌≢◌, ◌==◌, ℕ, [], true, false, Ok, ap, sym, ◌∙◌, subst, refl, arith}
use Rattle.std.specs.Prelude.{codes}
use Rattle.std.proofs.lemmas.Bool.Decides.{nat_tests}
use Rattle.std.proofs.lemmas.List.Elements.{All-nil}
use Rattle.toml.specs.Data.{Members}
use Rattle.pic_num.specs.Limits.{allowance_of, most_loops}
use Rattle.pic_grid.specs.Loops.{AreLoops}
use Rattle.pic_devices.specs.Devices.{no_devices}
use Rattle.pic_devices.specs.Drive.{drive_list}
use Rattle.pic_devices.specs.Probes.{no_probes, probes}
use Rattle.pic_walk.specs.Terms.{TermsView}
use Rattle.pic_walk.specs.Walk.{◌>>=◌, optional}
use Rattle.pic_walk.proofs.WalkLaws.{goes_on, exits}
use Rattle.pic_deck.specs.Keys.{devices}
use Rattle.pic_deck.proofs.device_reader.read_devices.Goals as goal

devices_of_first : (t : TermsView) (particles : ℕ) (ms : Members) → t.version ≡ 1 → devices t particles ms ≡ Ok no_devices
unfolding devices
devices_of_first t particles ms one =
    let same : (t.version == 1) ≡ true = grind (arith, nat_tests) in
    rw same

devices_of_further : (t : TermsView) (particles : ℕ) (ms : Members) → t.version ≢ 1 → devices t particles ms
    ≡ optional [] (drive_list t.grid.n) (codes "drive") [] ms
    >>= (λ loops. optional no_probes (probes t.grid.n particles) (codes "probe") [] ms
    >>= (λ watched. Ok (record { loops = loops; probes = watched })))
unfolding devices
devices_of_further t particles ms further =
    let other : (t.version == 1) ≡ false = grind (arith, nat_tests) in
    rw other

-- a version behind the first allows as many loops as the scheme
loops_of_further : (version : ℕ) → version ≢ 1 → (allowance_of version).loops ≡ most_loops
loops_of_further version further =
    let other : (version == 1) ≡ false = grind (arith, nat_tests) in
    rw other

pub returns-then-version-eq1-clause-walks : goal.returns-then-version-eq1-clause-walks
returns-then-version-eq1-clause-walks c =
    let one = rw c.version.ensures at c.if-version-eq1.true in
    record { answer = devices_of_first c.args.terms _ _ one ∙ ap Ok (sym c.none.ensures) }

pub returns-then-version-eq1-clause-loops : goal.returns-then-version-eq1-clause-loops
returns-then-version-eq1-clause-loops c = rw c.none.ensures (record { few = omega arith; each = All-nil _ })

pub returns-then-version-eq1-clause-probes : goal.returns-then-version-eq1-clause-probes
returns-then-version-eq1-clause-probes c =
    rw c.none.ensures (record { few_places = omega arith; places = All-nil _; few_ids = omega arith; ids = All-nil _ })

pub returns-in_err-loops-clause-walks : goal.returns-in_err-loops-clause-walks
returns-in_err-loops-clause-walks c =
    let further = rw c.version.ensures at c.if-version-eq1.false in
    rw (devices_of_further c.args.terms c.args.particles _ further)
    (exits _ _ c.from_residual.ensures.1 (rw c.cells.ensures at c.in_err-loops.ensures.walks))

pub returns-in_err-probes-clause-walks : goal.returns-in_err-probes-clause-walks
returns-in_err-probes-clause-walks c =
    let further = rw c.version.ensures at c.if-version-eq1.false in
    rw (devices_of_further c.args.terms c.args.particles _ further)
    (goes_on _ _ _ (rw c.cells.ensures at c.in_ok-loops.ensures.walks.answer)
    (exits _ _ c.from_residual-in_err-probes.ensures.1 (rw c.cells-2.ensures at c.in_err-probes.ensures.walks)))

pub returns-clause-walks : goal.returns-clause-walks
returns-clause-walks c =
    let further = rw c.version.ensures at c.if-version-eq1.false in
    rw (devices_of_further c.args.terms c.args.particles _ further)
    (goes_on _ _ _ (rw c.cells.ensures at c.in_ok-loops.ensures.walks.answer)
    (goes_on _ _ _ (rw c.cells-2.ensures at c.in_ok-probes.ensures.walks.answer) (record { answer = refl })))

pub returns-clause-loops : goal.returns-clause-loops
returns-clause-loops c =
    let further = rw c.version.ensures at c.if-version-eq1.false in
    subst (λ (most : ℕ). AreLoops c.args.terms.grid.n most c.in_ok-loops.loops) (sym (loops_of_further _ further))
    (rw c.cells.ensures at c.in_ok-loops.ensures.limits)

pub returns-clause-probes : goal.returns-clause-probes
returns-clause-probes c = rw c.cells-2.ensures at c.in_ok-probes.ensures.limits
