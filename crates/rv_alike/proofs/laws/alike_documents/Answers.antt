use Rattle.rv_alike.proofs.Documents.{same_certificate_rule, same_certificate_records, same_trace_rule, same_trace_records}
use Rattle.rv_alike.proofs.laws.alike_documents.Goals as goal

pub returns-clause-certificate_rules : goal.returns-clause-certificate_rules
returns-clause-certificate_rules c = λ program main f g well named first second. same_certificate_rule f g
    (c.alike_names.ensures.main program main f g well named first second)
    (c.alike_names.ensures.inputs program main f g well named first second)
    (c.alike_names.ensures.variables program main f g well named first second)
    (c.alike_names.ensures.columns program main f g well named first second)
    (c.alike_systems.ensures program main f g well named first second)

pub returns-clause-certificates : goal.returns-clause-certificates
returns-clause-certificates c = λ program main f g document well named first second. same_certificate_records f g
    (c.alike_names.ensures.main program main f g well named first second)
    (c.alike_names.ensures.inputs program main f g well named first second)
    (c.alike_names.ensures.variables program main f g well named first second)
    (c.alike_names.ensures.columns program main f g well named first second) document

pub returns-clause-trace_rules : goal.returns-clause-trace_rules
returns-clause-trace_rules c = λ program main f g well named first second. same_trace_rule f g
    (c.alike_names.ensures.main program main f g well named first second)
    (c.alike_names.ensures.inputs program main f g well named first second)
    (c.alike_names.ensures.labels program main f g well named first second)
    (c.alike_names.ensures.memories program main f g well named first second)

pub returns-clause-traces : goal.returns-clause-traces
returns-clause-traces c = λ program main f g trace well named first second. same_trace_records f g
    (c.alike_names.ensures.main program main f g well named first second)
    (c.alike_names.ensures.inputs program main f g well named first second)
    (c.alike_names.ensures.labels program main f g well named first second)
    (c.alike_names.ensures.memories program main f g well named first second) trace
