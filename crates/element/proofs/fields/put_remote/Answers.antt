-- `element::fields::put_remote` meets its contract: the type and two addresses, one after the other.
use Rattle.element.proofs.Writing.{puts_join}
use Rattle.element.proofs.fields.put_remote.Goals as goal

pub returns-in-V6-clause-put : goal.returns-in-V6-clause-put
returns-in-V6-clause-put c = rw c.in-V6.is (puts_join c.put-at.ensures (puts_join c.put_address-at.ensures c.put_address.ensures))
