-- The known global constructors.
use Rattle.std.specs.Prelude.{ℕ, List, [], ◌∷◌, map, codes}

-- the list of oxc_ecmascript 0.156.0, in its order
unfoldable pub known_constructors : List (List ℕ)
known_constructors = map codes (
    "AggregateError" ∷ "Array" ∷ "ArrayBuffer" ∷ "BigInt" ∷ "BigInt64Array" ∷
    "BigUint64Array" ∷ "Boolean" ∷ "DataView" ∷ "Date" ∷ "Error" ∷
    "EvalError" ∷ "FinalizationRegistry" ∷ "Float32Array" ∷ "Float64Array" ∷ "Function" ∷
    "Int8Array" ∷ "Int16Array" ∷ "Int32Array" ∷ "Iterator" ∷ "Map" ∷
    "Number" ∷ "Object" ∷ "Promise" ∷ "Proxy" ∷ "RangeError" ∷
    "ReferenceError" ∷ "RegExp" ∷ "Set" ∷ "SharedArrayBuffer" ∷ "String" ∷
    "Symbol" ∷ "SyntaxError" ∷ "TypeError" ∷ "Uint8Array" ∷ "Uint8ClampedArray" ∷
    "Uint16Array" ∷ "Uint32Array" ∷ "URIError" ∷ "WeakMap" ∷ "WeakSet" ∷ [])
