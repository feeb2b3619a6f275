use Rattle.rv_alike.proofs.Names.{same_main, same_variables, same_inputs, same_columns, same_labels, same_memories, same_thresholds}
use Rattle.rv_alike.proofs.laws.alike_names.Goals as goal

pub returns-clause-main : goal.returns-clause-main
returns-clause-main c = λ program main f g well named first second. same_main program main f g first second

pub returns-clause-variables : goal.returns-clause-variables
returns-clause-variables c = λ program main f g well named first second. same_variables program main f g first second

pub returns-clause-inputs : goal.returns-clause-inputs
returns-clause-inputs c = λ program main f g well named first second. same_inputs program main f g first second

pub returns-clause-columns : goal.returns-clause-columns
returns-clause-columns c = λ program main f g well named first second. same_columns program main f g first second

pub returns-clause-labels : goal.returns-clause-labels
returns-clause-labels c = λ program main f g well named first second. same_labels program main f g first second

pub returns-clause-memories : goal.returns-clause-memories
returns-clause-memories c = λ program main f g well named first second. same_memories program main f g first second

pub returns-clause-thresholds : goal.returns-clause-thresholds
returns-clause-thresholds c = λ program main f g well named first second. same_thresholds program main f g first second
