use Rattle.std.proofs.Common.{◌∙◌, sym, arith}
use Rattle.gv_logic.proofs.WholeBytes.{no_inputs, no_count, many_inputs, many_gates, inputs_are, count_is, no_root, unnamed, more_bytes, is_read, has_bytes, none_at}
use Rattle.gv_logic.proofs.reading.read_gates.Goals as goal

pub returns-in_default : goal.returns-in_default
returns-in_default c g w e = no_inputs c.args.bytes.now (rw c.new-reader.ensures at c.in_default.ensures.number) g e

pub returns-in_default-number : goal.returns-in_default-number
returns-in_default-number c g w e =
    no_count c.args.bytes.now c.number.new.self c.in-Some.inputs c.in-Some.ensures.fits (sym c.new-reader.ensures ∙ c.in-Some.ensures.number) g w e c.in_default-number.ensures.number

pub returns-then-inputs-gt-MOST : goal.returns-then-inputs-gt-MOST
returns-then-inputs-gt-MOST c g w e =
    many_inputs c.args.bytes.now c.number.new.self c.in-Some.inputs c.in-Some.ensures.fits (sym c.new-reader.ensures ∙ c.in-Some.ensures.number) g w e c.if-inputs-gt-MOST.true

pub returns-then-count-inputs : goal.returns-then-count-inputs
returns-then-count-inputs c g w e =
    many_gates c.args.bytes.now c.number.new.self c.in-Some.inputs c.in-Some.ensures.fits (sym c.new-reader.ensures ∙ c.in-Some.ensures.number) g w e c.number-2.new.self c.in-Some-number.count c.in-Some-number.ensures.fits c.in-Some-number.ensures.number (omega arith)

pub returns-in_default-2 : goal.returns-in_default-2
returns-in_default-2 c g w e =
    let none = rw c.in_default-2.is at c.in_ok-list.ensures in
    let first = inputs_are c.args.bytes.now c.number.new.self c.in-Some.inputs c.in-Some.ensures.fits (sym c.new-reader.ensures ∙ c.in-Some.ensures.number) g w e in
    let second = count_is c.args.bytes.now c.number.new.self c.in-Some.inputs c.in-Some.ensures.fits (sym c.new-reader.ensures ∙ c.in-Some.ensures.number) g w e c.number-2.new.self c.in-Some-number.count c.in-Some-number.ensures.fits c.in-Some-number.ensures.number in
    none_at c.in-Some.inputs c.in-Some-number.count c.number-2.new.self g w first.0 second.0 second.1 none

pub returns-in_default-number-2 : goal.returns-in_default-number-2
returns-in_default-number-2 c g w e =
    let said = rw c.in-Some-2.is at c.in_ok-list.ensures in
    no_root c.args.bytes.now c.number.new.self c.in-Some.inputs c.in-Some.ensures.fits (sym c.new-reader.ensures ∙ c.in-Some.ensures.number) g w e c.number-2.new.self c.in-Some-number.count c.in-Some-number.ensures.fits c.in-Some-number.ensures.number c.in-Some-2.list c.gates.new.self said.2 said.0 said.1 said.3 c.in_default-number-2.ensures.number

pub returns-then-root-inputs : goal.returns-then-root-inputs
returns-then-root-inputs c g w e =
    let said = rw c.in-Some-2.is at c.in_ok-list.ensures in
    unnamed c.args.bytes.now c.number.new.self c.in-Some.inputs c.in-Some.ensures.fits (sym c.new-reader.ensures ∙ c.in-Some.ensures.number) g w e c.number-2.new.self c.in-Some-number.count c.in-Some-number.ensures.fits c.in-Some-number.ensures.number c.in-Some-2.list c.gates.new.self said.2 said.0 said.1 said.3 c.in-Some-number-2.root c.number-3.new.self c.in-Some-number-2.ensures.fits c.in-Some-number-2.ensures.number c.if-root-inputs.true

pub returns-then-not-is_empty : goal.returns-then-not-is_empty
returns-then-not-is_empty c g w e =
    let said = rw c.in-Some-2.is at c.in_ok-list.ensures in
    more_bytes c.args.bytes.now c.number.new.self c.in-Some.inputs c.in-Some.ensures.fits (sym c.new-reader.ensures ∙ c.in-Some.ensures.number) g w e c.number-2.new.self c.in-Some-number.count c.in-Some-number.ensures.fits c.in-Some-number.ensures.number c.in-Some-2.list c.gates.new.self said.2 said.0 said.1 said.3 c.in-Some-number-2.root c.number-3.new.self c.in-Some-number-2.ensures.fits c.in-Some-number-2.ensures.number c.if-not-is_empty.ensures

pub returns : goal.returns
returns c =
    let said = rw c.in-Some-2.is at c.in_ok-list.ensures in (
      rw c.finish.ensures (has_bytes c.args.bytes.now c.number.new.self c.number-2.new.self c.gates.new.self c.number-3.new.self c.in-Some.inputs c.in-Some-number.count c.in-Some-number-2.root c.in-Some-2.list
          (sym c.new-reader.ensures ∙ c.in-Some.ensures.number) c.in-Some-number.ensures.number said.0 said.1 said.3 c.in-Some-number-2.ensures.number c.if-not-is_empty.ensures),
      λ g w e. is_read c.args.bytes.now c.number.new.self c.in-Some.inputs c.in-Some.ensures.fits (sym c.new-reader.ensures ∙ c.in-Some.ensures.number) g w e c.number-2.new.self c.in-Some-number.count c.in-Some-number.ensures.fits c.in-Some-number.ensures.number c.in-Some-2.list c.gates.new.self said.2 said.0 said.1 said.3 c.in-Some-number-2.root c.number-3.new.self c.in-Some-number-2.ensures.fits c.in-Some-number-2.ensures.number ∙ sym c.finish.ensures,
    )
