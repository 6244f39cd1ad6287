-- Where a write or the flush fails, what was written so far is a front of the piece.
use Rattle.std.proofs.Common.{◌≡◌, ℕ, ◌+◌, ◌-◌, List, ◌++◌, Option, length, take, drop, sym, ap, subst, ◌∙◌, append_assoc, take-append-drop}
use Rattle.std.proofs.lemmas.List.{take_rest}
use Rattle.std.proofs.Math.Seq.{take-append_seam}
use Rattle.std.specs.Io.KnownBytes.{Appends, Keeps}
use Rattle.std.proofs.KnownBytes.{Appends-trans, Appends-kept}
use Rattle.pic_io.proofs.Puts.{take-past}
use Rattle.pic_io.proofs.std_sink.write_whole.Goals as goal

-- n more of the rest are done
done_more : (all done rest : List ℕ) (n : ℕ) → all ≡ done ++ rest → all ≡ (done ++ take n rest) ++ take (length rest - n) (drop n rest)
done_more all done rest n split =
    split
    ∙ ap (λ l. done ++ l) (sym (take-append-drop n rest))
    ∙ sym (append_assoc done (take n rest) (drop n rest))
    ∙ ap (λ l. (done ++ take n rest) ++ l) (sym (take_rest rest n))

-- what is done is a front, where the last call changed nothing
front_kept : (a b c : Option (List ℕ)) (all done rest : List ℕ) → all ≡ done ++ rest → Appends a b done → Keeps b c → (k : ℕ) × Appends a c (take k all)
front_kept a b c all done rest split appended kept =
    let front : done ≡ take (length done) all = sym (take-append_seam done rest) ∙ ap (take (length done)) (sym split) in
    (length done, subst (Appends a c) front (Appends-kept a b c done appended kept))

-- what is done is a front, where the last call wrote n bytes more
front_more : (a b c : Option (List ℕ)) (all done rest : List ℕ) (n : ℕ) → all ≡ done ++ rest → Appends a b done → Appends b c (take n rest)
    → (k : ℕ) × Appends a c (take k all)
front_more a b c all done rest n split appended more =
    let front : done ++ take n rest ≡ take (length done + n) all = sym (take-past done rest n) ∙ ap (take (length done + n)) (sym split) in
    (length done + n, subst (Appends a c) front (Appends-trans a b c done (take n rest) appended more))

pub loop-rest-preserved : goal.loop-rest-preserved
loop-rest-preserved g c =
    let (done, split, appended) = c.loop-rest.invariant in
    let n = c.in-Ok.count in
    (done ++ take n c.loop-rest.rest.now, done_more _ done _ n split, Appends-trans _ _ _ _ _ appended c.in-Ok.ensures.bytes)

pub returns-in-Ok-eq0 : goal.returns-in-Ok-eq0
returns-in-Ok-eq0 g c =
    let (done, split, appended) = c.loop-rest.invariant in
    front_more _ _ _ _ done _ c.in-Ok-eq0.field-0 split appended c.in-Ok-eq0.ensures.bytes

pub returns-in-Err : goal.returns-in-Err
returns-in-Err g c =
    let (done, split, appended) = c.loop-rest.invariant in
    front_kept _ _ _ _ done _ split appended c.in-Err.ensures.bytes

pub returns-in-Err-flush : goal.returns-in-Err-flush
returns-in-Err-flush g c =
    let (done, split, appended) = c.loop-rest.invariant in
    front_kept _ _ _ _ done _ split appended c.in-Err-flush.ensures.bytes
