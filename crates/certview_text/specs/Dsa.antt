-- The DSA private key that OpenSSL writes. It is in no standard.
use Rattle.der_modules.specs.Asn1.{Grammar, SEQUENCE, field, end}
use Rattle.der_pkcs.specs.Algorithm.Grammar.{INTEGER_u8, NATURAL}

-- DSAPrivateKey ::= SEQUENCE {
--      version  INTEGER,           -- 0
--      p        INTEGER (0..MAX),
--      q        INTEGER (0..MAX),
--      g        INTEGER (0..MAX),
--      pub_key  INTEGER (0..MAX),  -- y
--      priv_key INTEGER (0..MAX) } -- x
abbrev pub dsa_private_key : Grammar
dsa_private_key =
    SEQUENCE
    (field INTEGER_u8
    (field NATURAL
    (field NATURAL
    (field NATURAL
    (field NATURAL
    (field NATURAL
    end))))))
