use Rattle.letrec_steps.proofs.Puts.{put_keeps_origins, put_keeps_none_before, top_is_put_in}
use Rattle.letrec_steps.proofs.Puts.{top_put_back, step_in_top_leads}
use Rattle.letrec_steps.proofs.laws.tops_after_steps.Goals as goal

pub returns : goal.returns
returns c = record {
  origins = put_keeps_origins;
  before = put_keeps_none_before;
  top = top_is_put_in;
  back = top_put_back;
  leads = step_in_top_leads;
}
