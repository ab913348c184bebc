mod NewInodes
