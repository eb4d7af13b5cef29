use Rattle.std.proofs.Common.{refl, subst}
use Rattle.std.proofs.lemmas.Bool.{false≢true}
use Rattle.stimulus.specs.declared.fault.StimCode.TheVariants.{S02, S03}
use Rattle.stimulus.proofs.Broken.{IsCode, broken_names, broken_widths, shaped}
use Rattle.stimulus.proofs.reading.line_of.Goals as goal

pub returns-then-not-have_names-clause-fault : goal.returns-then-not-have_names-clause-fault
returns-then-not-have_names-clause-fault c =
    let words = c.in-Some-2.words in
    let body = rw c.in-Some-2.is at c.in_ok-words.ensures.form in
    let words_are = rw c.in-Some-2.is at c.in_ok-words.ensures.words in
    let known = shaped c.args.ports.now c.args.text.now c.in-Some.line.body.now words c.len.result c.in-Some.ensures.form c.in-Some.ensures.body c.len.ensures words_are body in
    broken_names c.args.ports.now c.args.text.now words c.code_of.result known (λ names. false≢true (c.if-not-have_names.ensures.1 names))
    (subst (λ ps. IsCode ps S02 c.code_of.result) c.deref.ensures.value c.code_of.ensures)

pub returns-clause-fault : goal.returns-clause-fault
returns-clause-fault c =
    let words = c.in-Some-2.words in
    let body = rw c.in-Some-2.is at c.in_ok-words.ensures.form in
    let words_are = rw c.in-Some-2.is at c.in_ok-words.ensures.words in
    let known = shaped c.args.ports.now c.args.text.now c.in-Some.line.body.now words c.len.result c.in-Some.ensures.form c.in-Some.ensures.body c.len.ensures words_are body in
    broken_widths c.args.ports.now c.args.text.now words c.code_of-in-Err-Fault.result known (c.if-not-have_names.ensures.0 refl)
    (rw c.in-Err-Fault.field-0-is at c.in-Err-Fault.ensures.fault)
    (subst (λ ps. IsCode ps S03 c.code_of-in-Err-Fault.result) c.deref-in-Err-Fault.ensures.value c.code_of-in-Err-Fault.ensures)
