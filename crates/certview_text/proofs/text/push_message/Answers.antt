use Rattle.certview_text.proofs.text.push_message.Goals as goal

pub returns-in-Certificate : goal.returns-in-Certificate
returns-in-Certificate c = rw c.in-Certificate.is c.push_certificate.ensures

pub returns-in-RevocationList : goal.returns-in-RevocationList
returns-in-RevocationList c = rw c.in-RevocationList.is c.push_list.ensures

pub returns-in-RsaPrivateKey : goal.returns-in-RsaPrivateKey
returns-in-RsaPrivateKey c = rw c.in-RsaPrivateKey.is c.push_rsa_private_key.ensures

pub returns-in-EcPrivateKey : goal.returns-in-EcPrivateKey
returns-in-EcPrivateKey c = rw c.in-EcPrivateKey.is c.push_ec_private_key.ensures

pub returns-in-DsaPrivateKey : goal.returns-in-DsaPrivateKey
returns-in-DsaPrivateKey c = rw c.in-DsaPrivateKey.is c.push_dsa_private_key.ensures
