-- The results for the certificates that were read.
use Rattle.std.proofs.Common.{List, Err, Ok, sym, subst}
use Rattle.der_pkix.specs.declared.certificate.extension.Extension.{Extension}
use Rattle.der_path.specs.Chains.{EachRead}
use Rattle.der_path.specs.Keys.{first_key, HaveToVerify}
use Rattle.der_path.specs.Paths.{AnswersChain, EachListed}
use Rattle.der_path.proofs.Chains.{not_all_read, not_valid}
use Rattle.der_path.proofs.Listed.{listed_chain}
use Rattle.der_path.proofs.path.check_path.Goals as goal

pub returns-in-Err : goal.returns-in-Err
returns-in-Err c = not_all_read c.args.anchor.now c.args.chain.now c.args.inputs c.in-Err.error c.in-Err.ensures

pub returns-in-Err-policies_of : goal.returns-in-Err-policies_of
returns-in-Err-policies_of c =
    not_valid c.args.anchor.now c.args.chain.now c.args.inputs c.in-Ok.certificates.items c.in-Ok.ensures c.in-Err-policies_of.error
    (subst (λ cs. (lists : List (List Extension)) → EachListed cs lists → AnswersChain c.args.anchor.now.name cs lists c.args.inputs (Err c.in-Err-policies_of.error)) c.deref.ensures.value c.in-Err-policies_of.ensures)

pub returns-in-Ok-verifications_of : goal.returns-in-Ok-verifications_of
returns-in-Ok-verifications_of c = record {
  certificates = c.in-Ok.certificates.items;
  are_read = c.in-Ok.ensures;
  listed = listed_chain c.args.chain.now c.in-Ok.certificates.items c.in-Ok.ensures;
  answers = subst (λ cs. (lists : List (List Extension)) → EachListed cs lists → AnswersChain c.args.anchor.now.name cs lists c.args.inputs (Ok c.in-Ok-policies_of.policies)) c.deref.ensures.value c.in-Ok-policies_of.ensures;
  verifications =
      subst (λ cs. HaveToVerify (first_key c.args.anchor.now) c.args.chain.now cs c.in-Ok-verifications_of.verifications.items) c.deref-2.ensures.value
      (c.in-Ok-verifications_of.ensures (subst (EachRead c.args.chain.now) (sym c.deref-2.ensures.value) c.in-Ok.ensures));
}
