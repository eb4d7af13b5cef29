use Rattle.std.proofs.Common.{sym, ap, ◌∙◌, refl, length, rules}
use Rattle.std.proofs.lemmas.Option.{slice_get_read}
use Rattle.std.proofs.lemmas.Bool.{ltb-true}
use Rattle.type_ports.proofs.LeavesFound.{single}
use Rattle.type_ports.proofs.ports.product_fields.Goals as goal

pub returns-clause-some : goal.returns-clause-some
returns-clause-some c =
    record {
      it = c.in_ok-it.it.now;
      con = c.index-cons-0.result;
      known = slice_get_read c.args.datas.now (length c.args.datas.now) c.args.at c.in_ok-it.it.now refl (ltb-true _ _ (sym c.in_ok-it.ensures.lookup.0)) c.in_ok-it.ensures.lookup.1;
      as_many = sym c.if-len-args.false ∙ c.len.ensures;
      one = sym c.as_slice-cons.ensures ∙ single c.as_slice-cons.result.now c.index-cons-0.result c.if-cons-ne1.false c.index-cons-0.is;
      are = c.as_slice-fields.ensures ∙ ap (λ d. d.fields) (sym c.index-cons-0.is);
      some = search rules;
    }
