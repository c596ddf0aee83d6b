-- The known global identifiers.
use Rattle.std.specs.Prelude.{ℕ, List, [], ◌∷◌, ◌++◌, map, codes}

-- those that begin with A to G
unfoldable pub a_to_g : List (List ℕ)
a_to_g = map codes (
    "AbortController" ∷ "AbortSignal" ∷ "AggregateError" ∷ "AnalyserNode" ∷ "Animation" ∷
    "AnimationEffect" ∷ "AnimationEvent" ∷ "AnimationPlaybackEvent" ∷ "AnimationTimeline" ∷
    "Array" ∷ "ArrayBuffer" ∷ "Attr" ∷ "Audio" ∷ "AudioBuffer" ∷ "AudioBufferSourceNode" ∷
    "AudioDestinationNode" ∷ "AudioListener" ∷ "AudioNode" ∷ "AudioParam" ∷ "AudioProcessingEvent" ∷
    "AudioScheduledSourceNode" ∷ "BarProp" ∷ "BeforeUnloadEvent" ∷ "BigInt" ∷ "BiquadFilterNode" ∷
    "Blob" ∷ "BlobEvent" ∷ "Boolean" ∷ "ByteLengthQueuingStrategy" ∷ "CDATASection" ∷ "CSS" ∷
    "CSSAnimation" ∷ "CSSFontFaceRule" ∷ "CSSImportRule" ∷ "CSSKeyframeRule" ∷ "CSSKeyframesRule" ∷
    "CSSMediaRule" ∷ "CSSNamespaceRule" ∷ "CSSPageRule" ∷ "CSSRule" ∷ "CSSRuleList" ∷
    "CSSStyleDeclaration" ∷ "CSSStyleRule" ∷ "CSSStyleSheet" ∷ "CSSSupportsRule" ∷ "CSSTransition" ∷
    "CanvasGradient" ∷ "CanvasPattern" ∷ "CanvasRenderingContext2D" ∷ "ChannelMergerNode" ∷
    "ChannelSplitterNode" ∷ "CharacterData" ∷ "ClipboardEvent" ∷ "CloseEvent" ∷ "Comment" ∷
    "CompositionEvent" ∷ "ConvolverNode" ∷ "CountQueuingStrategy" ∷ "Crypto" ∷
    "CustomElementRegistry" ∷ "CustomEvent" ∷ "DOMException" ∷ "DOMImplementation" ∷ "DOMMatrix" ∷
    "DOMMatrixReadOnly" ∷ "DOMParser" ∷ "DOMPoint" ∷ "DOMPointReadOnly" ∷ "DOMQuad" ∷ "DOMRect" ∷
    "DOMRectList" ∷ "DOMRectReadOnly" ∷ "DOMStringList" ∷ "DOMStringMap" ∷ "DOMTokenList" ∷
    "DataTransfer" ∷ "DataTransferItem" ∷ "DataTransferItemList" ∷ "DataView" ∷ "Date" ∷
    "DelayNode" ∷ "Document" ∷ "DocumentFragment" ∷ "DocumentTimeline" ∷ "DocumentType" ∷
    "DragEvent" ∷ "DynamicsCompressorNode" ∷ "Element" ∷ "Error" ∷ "ErrorEvent" ∷ "EvalError" ∷
    "Event" ∷ "EventSource" ∷ "EventTarget" ∷ "File" ∷ "FileList" ∷ "FileReader" ∷ "Float32Array" ∷
    "Float64Array" ∷ "FocusEvent" ∷ "FontFace" ∷ "FormData" ∷ "Function" ∷ "GainNode" ∷ "Gamepad" ∷
    "GamepadButton" ∷ "GamepadEvent" ∷ "Geolocation" ∷ "GeolocationPositionError" ∷ [])

-- those that begin with H to R
unfoldable pub h_to_r : List (List ℕ)
h_to_r = map codes (
    "HTMLAllCollection" ∷ "HTMLAnchorElement" ∷ "HTMLAreaElement" ∷ "HTMLAudioElement" ∷
    "HTMLBRElement" ∷ "HTMLBaseElement" ∷ "HTMLBodyElement" ∷ "HTMLButtonElement" ∷
    "HTMLCanvasElement" ∷ "HTMLCollection" ∷ "HTMLDListElement" ∷ "HTMLDataElement" ∷
    "HTMLDataListElement" ∷ "HTMLDetailsElement" ∷ "HTMLDirectoryElement" ∷ "HTMLDivElement" ∷
    "HTMLDocument" ∷ "HTMLElement" ∷ "HTMLEmbedElement" ∷ "HTMLFieldSetElement" ∷
    "HTMLFontElement" ∷ "HTMLFormControlsCollection" ∷ "HTMLFormElement" ∷ "HTMLFrameElement" ∷
    "HTMLFrameSetElement" ∷ "HTMLHRElement" ∷ "HTMLHeadElement" ∷ "HTMLHeadingElement" ∷
    "HTMLHtmlElement" ∷ "HTMLIFrameElement" ∷ "HTMLImageElement" ∷ "HTMLInputElement" ∷
    "HTMLLIElement" ∷ "HTMLLabelElement" ∷ "HTMLLegendElement" ∷ "HTMLLinkElement" ∷
    "HTMLMapElement" ∷ "HTMLMarqueeElement" ∷ "HTMLMediaElement" ∷ "HTMLMenuElement" ∷
    "HTMLMetaElement" ∷ "HTMLMeterElement" ∷ "HTMLModElement" ∷ "HTMLOListElement" ∷
    "HTMLObjectElement" ∷ "HTMLOptGroupElement" ∷ "HTMLOptionElement" ∷ "HTMLOptionsCollection" ∷
    "HTMLOutputElement" ∷ "HTMLParagraphElement" ∷ "HTMLParamElement" ∷ "HTMLPictureElement" ∷
    "HTMLPreElement" ∷ "HTMLProgressElement" ∷ "HTMLQuoteElement" ∷ "HTMLScriptElement" ∷
    "HTMLSelectElement" ∷ "HTMLSlotElement" ∷ "HTMLSourceElement" ∷ "HTMLSpanElement" ∷
    "HTMLStyleElement" ∷ "HTMLTableCaptionElement" ∷ "HTMLTableCellElement" ∷
    "HTMLTableColElement" ∷ "HTMLTableElement" ∷ "HTMLTableRowElement" ∷ "HTMLTableSectionElement" ∷
    "HTMLTemplateElement" ∷ "HTMLTextAreaElement" ∷ "HTMLTimeElement" ∷ "HTMLTitleElement" ∷
    "HTMLTrackElement" ∷ "HTMLUListElement" ∷ "HTMLUnknownElement" ∷ "HTMLVideoElement" ∷
    "HashChangeEvent" ∷ "Headers" ∷ "History" ∷ "IDBCursor" ∷ "IDBCursorWithValue" ∷ "IDBDatabase" ∷
    "IDBFactory" ∷ "IDBIndex" ∷ "IDBKeyRange" ∷ "IDBObjectStore" ∷ "IDBOpenDBRequest" ∷
    "IDBRequest" ∷ "IDBTransaction" ∷ "IDBVersionChangeEvent" ∷ "Image" ∷ "ImageData" ∷
    "InputEvent" ∷ "Int16Array" ∷ "Int32Array" ∷ "Int8Array" ∷ "IntersectionObserver" ∷
    "IntersectionObserverEntry" ∷ "Intl" ∷ "JSON" ∷ "KeyboardEvent" ∷ "KeyframeEffect" ∷
    "Location" ∷ "Map" ∷ "Math" ∷ "MediaCapabilities" ∷ "MediaElementAudioSourceNode" ∷
    "MediaEncryptedEvent" ∷ "MediaError" ∷ "MediaList" ∷ "MediaQueryList" ∷ "MediaQueryListEvent" ∷
    "MediaRecorder" ∷ "MediaSource" ∷ "MediaStream" ∷ "MediaStreamAudioDestinationNode" ∷
    "MediaStreamAudioSourceNode" ∷ "MediaStreamTrack" ∷ "MediaStreamTrackEvent" ∷ "MessageChannel" ∷
    "MessageEvent" ∷ "MessagePort" ∷ "MimeType" ∷ "MimeTypeArray" ∷ "MouseEvent" ∷ "MutationEvent" ∷
    "MutationObserver" ∷ "MutationRecord" ∷ "NamedNodeMap" ∷ "Navigator" ∷ "Node" ∷ "NodeFilter" ∷
    "NodeIterator" ∷ "NodeList" ∷ "Notification" ∷ "Number" ∷ "Object" ∷
    "OfflineAudioCompletionEvent" ∷ "Option" ∷ "OscillatorNode" ∷ "PageTransitionEvent" ∷ "Path2D" ∷
    "Performance" ∷ "PerformanceEntry" ∷ "PerformanceMark" ∷ "PerformanceMeasure" ∷
    "PerformanceNavigation" ∷ "PerformanceObserver" ∷ "PerformanceObserverEntryList" ∷
    "PerformanceResourceTiming" ∷ "PerformanceTiming" ∷ "PeriodicWave" ∷ "Plugin" ∷ "PluginArray" ∷
    "PointerEvent" ∷ "PopStateEvent" ∷ "ProcessingInstruction" ∷ "ProgressEvent" ∷ "Promise" ∷
    "PromiseRejectionEvent" ∷ "Proxy" ∷ "RTCCertificate" ∷ "RTCDTMFSender" ∷
    "RTCDTMFToneChangeEvent" ∷ "RTCDataChannel" ∷ "RTCDataChannelEvent" ∷ "RTCIceCandidate" ∷
    "RTCPeerConnection" ∷ "RTCPeerConnectionIceEvent" ∷ "RTCRtpReceiver" ∷ "RTCRtpSender" ∷
    "RTCRtpTransceiver" ∷ "RTCSessionDescription" ∷ "RTCStatsReport" ∷ "RTCTrackEvent" ∷
    "RadioNodeList" ∷ "Range" ∷ "RangeError" ∷ "ReadableStream" ∷ "ReferenceError" ∷ "Reflect" ∷
    "RegExp" ∷ "Request" ∷ "ResizeObserver" ∷ "ResizeObserverEntry" ∷ "Response" ∷ [])

-- those that begin with S to X
unfoldable pub s_to_x : List (List ℕ)
s_to_x = map codes (
    "SVGAElement" ∷ "SVGAngle" ∷ "SVGAnimateElement" ∷ "SVGAnimateMotionElement" ∷
    "SVGAnimateTransformElement" ∷ "SVGAnimatedAngle" ∷ "SVGAnimatedBoolean" ∷
    "SVGAnimatedEnumeration" ∷ "SVGAnimatedInteger" ∷ "SVGAnimatedLength" ∷
    "SVGAnimatedLengthList" ∷ "SVGAnimatedNumber" ∷ "SVGAnimatedNumberList" ∷
    "SVGAnimatedPreserveAspectRatio" ∷ "SVGAnimatedRect" ∷ "SVGAnimatedString" ∷
    "SVGAnimatedTransformList" ∷ "SVGAnimationElement" ∷ "SVGCircleElement" ∷ "SVGClipPathElement" ∷
    "SVGComponentTransferFunctionElement" ∷ "SVGDefsElement" ∷ "SVGDescElement" ∷ "SVGElement" ∷
    "SVGEllipseElement" ∷ "SVGFEBlendElement" ∷ "SVGFEColorMatrixElement" ∷
    "SVGFEComponentTransferElement" ∷ "SVGFECompositeElement" ∷ "SVGFEConvolveMatrixElement" ∷
    "SVGFEDiffuseLightingElement" ∷ "SVGFEDisplacementMapElement" ∷ "SVGFEDistantLightElement" ∷
    "SVGFEDropShadowElement" ∷ "SVGFEFloodElement" ∷ "SVGFEFuncAElement" ∷ "SVGFEFuncBElement" ∷
    "SVGFEFuncGElement" ∷ "SVGFEFuncRElement" ∷ "SVGFEGaussianBlurElement" ∷ "SVGFEImageElement" ∷
    "SVGFEMergeElement" ∷ "SVGFEMergeNodeElement" ∷ "SVGFEMorphologyElement" ∷
    "SVGFEOffsetElement" ∷ "SVGFEPointLightElement" ∷ "SVGFESpecularLightingElement" ∷
    "SVGFESpotLightElement" ∷ "SVGFETileElement" ∷ "SVGFETurbulenceElement" ∷ "SVGFilterElement" ∷
    "SVGForeignObjectElement" ∷ "SVGGElement" ∷ "SVGGeometryElement" ∷ "SVGGradientElement" ∷
    "SVGGraphicsElement" ∷ "SVGImageElement" ∷ "SVGLength" ∷ "SVGLengthList" ∷ "SVGLineElement" ∷
    "SVGLinearGradientElement" ∷ "SVGMPathElement" ∷ "SVGMarkerElement" ∷ "SVGMaskElement" ∷
    "SVGMatrix" ∷ "SVGMetadataElement" ∷ "SVGNumber" ∷ "SVGNumberList" ∷ "SVGPathElement" ∷
    "SVGPatternElement" ∷ "SVGPoint" ∷ "SVGPointList" ∷ "SVGPolygonElement" ∷ "SVGPolylineElement" ∷
    "SVGPreserveAspectRatio" ∷ "SVGRadialGradientElement" ∷ "SVGRect" ∷ "SVGRectElement" ∷
    "SVGSVGElement" ∷ "SVGScriptElement" ∷ "SVGSetElement" ∷ "SVGStopElement" ∷ "SVGStringList" ∷
    "SVGStyleElement" ∷ "SVGSwitchElement" ∷ "SVGSymbolElement" ∷ "SVGTSpanElement" ∷
    "SVGTextContentElement" ∷ "SVGTextElement" ∷ "SVGTextPathElement" ∷
    "SVGTextPositioningElement" ∷ "SVGTitleElement" ∷ "SVGTransform" ∷ "SVGTransformList" ∷
    "SVGUnitTypes" ∷ "SVGUseElement" ∷ "SVGViewElement" ∷ "Screen" ∷ "ScriptProcessorNode" ∷
    "SecurityPolicyViolationEvent" ∷ "Selection" ∷ "Set" ∷ "ShadowRoot" ∷ "SourceBuffer" ∷
    "SourceBufferList" ∷ "SpeechSynthesisEvent" ∷ "SpeechSynthesisUtterance" ∷ "StaticRange" ∷
    "Storage" ∷ "StorageEvent" ∷ "String" ∷ "StyleSheet" ∷ "StyleSheetList" ∷ "Symbol" ∷
    "SyntaxError" ∷ "Text" ∷ "TextDecoder" ∷ "TextEncoder" ∷ "TextMetrics" ∷ "TextTrack" ∷
    "TextTrackCue" ∷ "TextTrackCueList" ∷ "TextTrackList" ∷ "TimeRanges" ∷ "TrackEvent" ∷
    "TransitionEvent" ∷ "TreeWalker" ∷ "TypeError" ∷ "UIEvent" ∷ "URIError" ∷ "URL" ∷
    "URLSearchParams" ∷ "Uint16Array" ∷ "Uint32Array" ∷ "Uint8Array" ∷ "Uint8ClampedArray" ∷
    "VTTCue" ∷ "ValidityState" ∷ "VisualViewport" ∷ "WaveShaperNode" ∷ "WeakMap" ∷ "WeakSet" ∷
    "WebAssembly" ∷ "WebGLActiveInfo" ∷ "WebGLBuffer" ∷ "WebGLContextEvent" ∷ "WebGLFramebuffer" ∷
    "WebGLProgram" ∷ "WebGLQuery" ∷ "WebGLRenderbuffer" ∷ "WebGLRenderingContext" ∷ "WebGLSampler" ∷
    "WebGLShader" ∷ "WebGLShaderPrecisionFormat" ∷ "WebGLSync" ∷ "WebGLTexture" ∷
    "WebGLUniformLocation" ∷ "WebKitCSSMatrix" ∷ "WebSocket" ∷ "WheelEvent" ∷ "Window" ∷ "Worker" ∷
    "XMLDocument" ∷ "XMLHttpRequest" ∷ "XMLHttpRequestEventTarget" ∷ "XMLHttpRequestUpload" ∷
    "XMLSerializer" ∷ "XPathEvaluator" ∷ "XPathExpression" ∷ "XPathResult" ∷ "XSLTProcessor" ∷ [])

-- those that begin with a small letter
unfoldable pub lowercase : List (List ℕ)
lowercase = map codes (
    "alert" ∷ "atob" ∷ "blur" ∷ "btoa" ∷ "cancelAnimationFrame" ∷ "captureEvents" ∷
    "clearInterval" ∷ "clearTimeout" ∷ "close" ∷ "closed" ∷ "confirm" ∷ "console" ∷
    "customElements" ∷ "decodeURI" ∷ "decodeURIComponent" ∷ "devicePixelRatio" ∷ "document" ∷
    "encodeURI" ∷ "encodeURIComponent" ∷ "escape" ∷ "event" ∷ "fetch" ∷ "find" ∷ "focus" ∷
    "frameElement" ∷ "frames" ∷ "getComputedStyle" ∷ "getSelection" ∷ "globalThis" ∷ "history" ∷
    "indexedDB" ∷ "isFinite" ∷ "isNaN" ∷ "isSecureContext" ∷ "length" ∷ "location" ∷ "locationbar" ∷
    "matchMedia" ∷ "menubar" ∷ "moveBy" ∷ "moveTo" ∷ "name" ∷ "navigator" ∷ "onabort" ∷
    "onafterprint" ∷ "onanimationend" ∷ "onanimationiteration" ∷ "onanimationstart" ∷
    "onbeforeprint" ∷ "onbeforeunload" ∷ "onblur" ∷ "oncanplay" ∷ "oncanplaythrough" ∷ "onchange" ∷
    "onclick" ∷ "oncontextmenu" ∷ "oncuechange" ∷ "ondblclick" ∷ "ondrag" ∷ "ondragend" ∷
    "ondragenter" ∷ "ondragleave" ∷ "ondragover" ∷ "ondragstart" ∷ "ondrop" ∷ "ondurationchange" ∷
    "onemptied" ∷ "onended" ∷ "onerror" ∷ "onfocus" ∷ "ongotpointercapture" ∷ "onhashchange" ∷
    "oninput" ∷ "oninvalid" ∷ "onkeydown" ∷ "onkeypress" ∷ "onkeyup" ∷ "onlanguagechange" ∷
    "onload" ∷ "onloadeddata" ∷ "onloadedmetadata" ∷ "onloadstart" ∷ "onlostpointercapture" ∷
    "onmessage" ∷ "onmousedown" ∷ "onmouseenter" ∷ "onmouseleave" ∷ "onmousemove" ∷ "onmouseout" ∷
    "onmouseover" ∷ "onmouseup" ∷ "onoffline" ∷ "ononline" ∷ "onpagehide" ∷ "onpageshow" ∷
    "onpause" ∷ "onplay" ∷ "onplaying" ∷ "onpointercancel" ∷ "onpointerdown" ∷ "onpointerenter" ∷
    "onpointerleave" ∷ "onpointermove" ∷ "onpointerout" ∷ "onpointerover" ∷ "onpointerup" ∷
    "onpopstate" ∷ "onprogress" ∷ "onratechange" ∷ "onrejectionhandled" ∷ "onreset" ∷ "onresize" ∷
    "onscroll" ∷ "onseeked" ∷ "onseeking" ∷ "onselect" ∷ "onstalled" ∷ "onstorage" ∷ "onsubmit" ∷
    "onsuspend" ∷ "ontimeupdate" ∷ "ontoggle" ∷ "ontransitioncancel" ∷ "ontransitionend" ∷
    "ontransitionrun" ∷ "ontransitionstart" ∷ "onunhandledrejection" ∷ "onunload" ∷
    "onvolumechange" ∷ "onwaiting" ∷ "onwebkitanimationend" ∷ "onwebkitanimationiteration" ∷
    "onwebkitanimationstart" ∷ "onwebkittransitionend" ∷ "onwheel" ∷ "open" ∷ "opener" ∷ "origin" ∷
    "outerHeight" ∷ "outerWidth" ∷ "parent" ∷ "parseFloat" ∷ "parseInt" ∷ "performance" ∷
    "personalbar" ∷ "postMessage" ∷ "print" ∷ "prompt" ∷ "queueMicrotask" ∷ "releaseEvents" ∷
    "requestAnimationFrame" ∷ "resizeBy" ∷ "resizeTo" ∷ "screen" ∷ "screenLeft" ∷ "screenTop" ∷
    "screenX" ∷ "screenY" ∷ "scroll" ∷ "scrollBy" ∷ "scrollTo" ∷ "scrollbars" ∷ "self" ∷
    "setInterval" ∷ "setTimeout" ∷ "speechSynthesis" ∷ "status" ∷ "statusbar" ∷ "stop" ∷ "toolbar" ∷
    "top" ∷ "unescape" ∷ "webkitURL" ∷ "window" ∷ [])

-- the list of oxc_ecmascript 0.156.0, in its order, which is byte order
unfoldable pub known_names : List (List ℕ)
known_names = a_to_g ++ (h_to_r ++ (s_to_x ++ lowercase))
