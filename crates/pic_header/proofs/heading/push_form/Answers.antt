use Rattle.std.proofs.Common.{◌≡◌, ℕ, List, ◌++◌, length, ap, sym, ◌∙◌, append_assoc}
use Rattle.std.proofs.Common.{ne_eqb}
use Rattle.pic_num.specs.Bytes.{u32_bytes}
use Rattle.pic_num.specs.Sub.{bits_of, bits_of-side}
use Rattle.pic_header.specs.HeaderText.{form_bytes}
use Rattle.pic_header.proofs.heading.push_form.Goals as goal

-- three numbers behind a text, put one after another
behind : (t b f z : List ℕ) → t ++ b ++ f ++ z ≡ t ++ (b ++ f ++ z)
behind t b f z = ap (λ l. l ++ z) (append_assoc t b f) ∙ append_assoc t (b ++ f) z

pub returns-then-version-ne1-clause-bytes : goal.returns-then-version-ne1-clause-bytes
unfolding form_bytes
returns-then-version-ne1-clause-bytes c =
    let bits = c.bits.result in
    let is : bits_of c.sub.result ≡ bits = ap bits_of c.bits.ensures.power ∙ bits_of-side bits c.bits.ensures.least c.bits.ensures.most in
    let side = ap bits_of (sym c.cells.ensures.side ∙ sym c.sub.ensures) ∙ is in
    let other = ne_eqb c.args.header.now.version 1 (λ one. c.if-version-ne1.true (c.version.ensures.value ∙ one)) in
    rw (
      c.push_u32-then-version-ne1-2.ensures.bytes,
      c.push_u32-then-version-ne1.ensures.bytes,
      c.push_u32.ensures.bytes,
      other,
      side,
      c.filter.ensures.value,
      c.as_slice.ensures,
      c.loops.ensures.value,
    )
    (behind c.args.text.now (u32_bytes bits) (u32_bytes c.args.header.now.filter) (u32_bytes (length c.args.header.now.loops)))
