use Rattle.std.proofs.Common.{◌≡◌, ◌∙◌, arith, sym, subst, Err}
use Rattle.std.proofs.lemmas.Result.{err_from_is_err_and}
use Rattle.pm_words.specs.declared.layout.Layout.{Layout}
use Rattle.pm_words.specs.Layouts.{IsLayout}
use Rattle.pm_words.specs.Bytes.{layout_in, IsFirstOut}
use Rattle.pm_words.proofs.Spelled.{magic_stands, first_out}
use Rattle.pm_words.proofs.bytes.read_header.Goals as goal

pub returns-then-format-ne-FORMAT-clause-fault : goal.returns-then-format-ne-FORMAT-clause-fault
returns-then-format-ne-FORMAT-clause-fault c =
    let magic = magic_stands c.args.bytes.now c.if-bytes-lt-HEADER_BYTES.false (λ i. omega (arith, c.type_inv.bytes i)) (sym c.word_in.ensures ∙ c.if-word_in-from_le_bytes.false ∙ c.from_le_bytes.ensures) in
    ((c.if-bytes-lt-HEADER_BYTES.false, magic), c.word_in-format.ensures, c.if-format-ne-FORMAT.true)

pub returns-in_err-new-clause-fault : goal.returns-in_err-new-clause-fault
returns-in_err-new-clause-fault c =
    let bytes = c.args.bytes.now in
    let magic = magic_stands bytes c.if-bytes-lt-HEADER_BYTES.false (λ i. omega (arith, c.type_inv.bytes i)) (sym c.word_in.ensures ∙ c.if-word_in-from_le_bytes.false ∙ c.from_le_bytes.ensures) in
    let format = sym c.word_in-format.ensures ∙ c.if-format-ne-FORMAT.false in
    let same : record { nodes = c.word_in-nodes.result; slots = c.word_in-slots.result; callers = c.word_in-callers.result } ≡ layout_in bytes =
    λ x. record { nodes = c.word_in-nodes.ensures x; slots = c.word_in-slots.ensures x; callers = c.word_in-callers.ensures x } in
    let field = c.in_err-new.field-0.0.field in
    let told = c.in_err-new.ensures in
    let out = first_out (record { nodes = c.word_in-nodes.result; slots = c.word_in-slots.result; callers = c.word_in-callers.result }) field
    (λ e. told.bad_nodes.0 (λ x. Err (record { field = e x })))
    (λ e. told.bad_slots.0 (λ x. Err (record { field = e x })))
    (λ e. told.bad_callers.0 (λ x. Err (record { field = e x }))) in
    let fault = err_from_is_err_and c.from_residual.result c.from_residual.ensures.1 in
    rw (fault.1, fault.2) (((c.if-bytes-lt-HEADER_BYTES.false, magic), format), subst (λ (l : Layout). IsFirstOut l field) same out)

pub returns-clause-layout : goal.returns-clause-layout
returns-clause-layout c =
    let bytes = c.args.bytes.now in
    let magic = magic_stands bytes c.if-bytes-lt-HEADER_BYTES.false (λ i. omega (arith, c.type_inv.bytes i)) (sym c.word_in.ensures ∙ c.if-word_in-from_le_bytes.false ∙ c.from_le_bytes.ensures) in
    let format = sym c.word_in-format.ensures ∙ c.if-format-ne-FORMAT.false in
    let same : record { nodes = c.word_in-nodes.result; slots = c.word_in-slots.result; callers = c.word_in-callers.result } ≡ layout_in bytes =
    λ x. record { nodes = c.word_in-nodes.ensures x; slots = c.word_in-slots.ensures x; callers = c.word_in-callers.ensures x } in
    let told = c.in_ok-new.ensures in
    let is : c.in_ok-new.field-0 ≡ layout_in bytes = told.made ∙ same in
    ((((c.if-bytes-lt-HEADER_BYTES.false, magic), format), subst IsLayout is told.layout), is)
